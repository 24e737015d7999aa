use Rattle.heap_rule.specs.Slots.{IsShutAt}
use Rattle.heap_rule.proofs.Paths.{Below}
use Rattle.heap_core_views.proofs.slots.is_behind.Given as goal

abbrev pub invariant-loop-r : goal.invariant-loop-r
invariant-loop-r l = Below (IsShutAt l.view l.us) l.us l.n l.r
