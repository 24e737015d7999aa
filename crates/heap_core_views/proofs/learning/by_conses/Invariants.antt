use Rattle.heap_rule.specs.Learning.{by_cons}
use Rattle.heap_core_views.proofs.Searches.{Seeking}
use Rattle.heap_core_views.proofs.learning.by_conses.Given as goal

abbrev pub invariant-loop-other : goal.invariant-loop-other
invariant-loop-other l = Seeking (by_cons l.view l.id) l.view.forms l.other-iterator
