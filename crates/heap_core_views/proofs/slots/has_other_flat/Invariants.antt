use Rattle.std.proofs.Common.{◌≡◌, false}
use Rattle.heap_rule.specs.SlotTests.{other_lane, any_below}
use Rattle.heap_core_views.proofs.slots.has_other_flat.Given as goal

abbrev pub invariant-loop-o : goal.invariant-loop-o
invariant-loop-o l = any_below (other_lane l.view l.us l.wide l.start) l.o ≡ false
