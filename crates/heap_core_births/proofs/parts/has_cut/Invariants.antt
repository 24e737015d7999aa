use Rattle.heap_core_births.specs.Moving.{IsCut}
use Rattle.heap_core_views.proofs.Searches.{Searching}
use Rattle.heap_core_births.proofs.parts.has_cut.Given as goal

abbrev pub invariant-loop-part : goal.invariant-loop-part
invariant-loop-part l = Searching (λ _ f. IsCut l.p f) l.view.forms l._part-iterator
