use Rattle.heap_core_views.specs.Loading.{Spans}
use Rattle.heap_core_views.proofs.Searches.{Searching}
use Rattle.heap_core_views.proofs.learning.is_spanned.Given as goal

abbrev pub invariant-loop-id : goal.invariant-loop-id
invariant-loop-id l = Searching (Spans l.view l.at) l.view.forms l.id-iterator
