use Rattle.heap_rule.specs.Births.{part_by}
use Rattle.heap_core_views.proofs.Searches.{Seeking}
use Rattle.heap_core_births.proofs.parts.part_by_any.Given as goal

abbrev pub invariant-loop-other : goal.invariant-loop-other
invariant-loop-other l = Seeking (part_by l.view l.p l.o l.n) l.view.forms l.other-iterator
