use Rattle.heap_core_views.specs.Loading.{EndsPast}
use Rattle.heap_core_views.proofs.Searches.{Searching}
use Rattle.heap_core_views.proofs.learning.has_later_part.Given as goal

abbrev pub invariant-loop-part : goal.invariant-loop-part
invariant-loop-part l = Searching (EndsPast l.view l.id l.n) l.view.forms l.part-iterator
