use Rattle.std.proofs.Common.{◌*◌, ◌≤◌, ℕ, List, length, subst, sym}
use Rattle.heap_ids.specs.Sets.{Covers, IsIn, has_bit}
use Rattle.heap_ids.proofs.Bits.{same_items}
use Rattle.heap_ids.proofs.ids.IdSet.try_clone.Goals as goal

pub returns-clause-room : goal.returns-clause-room
unfolding Covers
returns-clause-room c n h = let e = same_items c.args.self.now.words.items c.in_ok-words.words.items c.in_ok-words.ensures.cases.0 in subst (λ (ws : List ℕ). n ≤ 64 * length ws) (sym e) h

pub returns-clause-same : goal.returns-clause-same
unfolding IsIn
returns-clause-same c i = let e = same_items c.args.self.now.words.items c.in_ok-words.words.items c.in_ok-words.ensures.cases.0 in
    (λ h. subst (λ (ws : List ℕ). has_bit ws i) e h, λ h. subst (λ (ws : List ℕ). has_bit ws i) (sym e) h)
