use Rattle.std.proofs.Common.{arith, false, true, ◌≡◌}
use Rattle.heap_core_births.proofs.births.has_zeros.Goals as goal

pub returns-then-shown_lane-ne0 : goal.returns-then-shown_lane-ne0
returns-then-shown_lane-ne0 c = (
  (λ (e : false ≡ true). absurd (cc)),
  (λ h. let i = c.lanes.invariant in let l = i.1 in let z = h c.lanes.o (omega arith) (omega arith) in let e = c.shown_lane.ensures in absurd (omega arith)),
)
