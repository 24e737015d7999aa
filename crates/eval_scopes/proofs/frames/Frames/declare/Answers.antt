use Rattle.std.proofs.Common.{arith, ◌≡◌, ℕ, ◌+◌, ◌≤◌, ap, length, subst, sym, take}
use Rattle.eval_tree.specs.Keys.{key_of}
use Rattle.eval_scopes.specs.Marks.{mark_number}
use Rattle.eval_scopes.specs.Starts.{KeepsReach, AreStarts}
use Rattle.eval_scopes.proofs.Stacked.{length_taken}
use Rattle.eval_scopes.proofs.frames.Frames.declare.Goals as goal

pub invariant_of-self : goal.invariant_of-self
invariant_of-self g c =
    let s = c.self.inside in
    let h = c.self.invariant in
    let e = c.declare_in_block.ensures in
    let before = s.starts.counts in
    let after = c.mark.new.self.counts in
    let n : s.entered ≡ c.args.last + 1 = omega (arith, c.requires, ap length c.self.view_is, length_taken s.entered s.all.items h.within) in
    let r : s.entered ≤ mark_number after (key_of c.args.name.now) = subst (λ (q : ℕ). s.entered ≤ mark_number after q) c.key.ensures c.mark.ensures.marked in
    record {
      within = omega (arith, h.within, e.as_many);
      starts = subst (λ (q : ℕ). AreStarts after (take q c.declare_in_block.new.blocks.items)) (sym n)
          (e.starts before after (subst (λ (q : ℕ). KeepsReach before after q) n c.mark.ensures.kept) (omega (arith, n, r))
          (subst (λ (q : ℕ). AreStarts before (take q s.all.items)) n h.starts));
    }
