use Rattle.std.proofs.Common.{arith, ℕ, ◌+◌, ◌≤◌, subst}
use Rattle.eval_tree.specs.Keys.{key_of}
use Rattle.eval_scopes.specs.Marks.{mark_number}
use Rattle.eval_scopes.proofs.Walks.{frames_stay, frames_kept}
use Rattle.eval_scopes.proofs.frames.Frames.enter_turn.Goals as goal

pub invariant_of-self : goal.invariant_of-self
invariant_of-self g c = frames_stay c.self.inside.starts.counts c.self.inside.entered c.self.inside.all.items c.make_room.new.all.items
    c.make_room.ensures.kept c.make_room.ensures.within c.self.invariant

pub invariant_of-self-in_err-enter_turn_at : goal.invariant_of-self-in_err-enter_turn_at
invariant_of-self-in_err-enter_turn_at g c =
    let s = c.self.inside in
    let h = frames_stay s.starts.counts s.entered s.all.items c.make_room.new.all.items c.make_room.ensures.kept c.make_room.ensures.within c.self.invariant in
    frames_kept s.starts.counts c.mark.new.self.counts s.entered (s.entered + 1) c.make_room.new.all.items c.enter_turn_at.new.all.items c.enter_turn_at.ensures.kept
    (omega (arith, c.in_ok-make_room.ensures.room, c.enter_turn_at.ensures.as_many)) (omega arith) c.mark.ensures.kept h

pub invariant_of-self-2 : goal.invariant_of-self-2
invariant_of-self-2 g c =
    let s = c.self.inside in
    let h = frames_stay s.starts.counts s.entered s.all.items c.make_room.new.all.items c.make_room.ensures.kept c.make_room.ensures.within c.self.invariant in
    let r : s.entered + 1 ≤ mark_number c.mark.new.self.counts (key_of c.args.name.now) =
    subst (λ (q : ℕ). s.entered + 1 ≤ mark_number c.mark.new.self.counts q) c.key.ensures c.mark.ensures.marked in
    record {
      within = omega (arith, c.in_ok-make_room.ensures.room, c.enter_turn_at.ensures.as_many);
      starts = c.in_ok-enter_turn_at.ensures.starts s.starts.counts c.mark.new.self.counts c.mark.ensures.kept r h.starts;
    }
