use Rattle.std.proofs.Common.{IsTrue}
use Rattle.std.specs.FinMap.{get}
use Rattle.heap_rule.specs.Learning.{tells}
use Rattle.heap_core_views.specs.Loading.{loaded_by}
use Rattle.heap_core_views.proofs.Searches.{Searching}
use Rattle.heap_core_views.proofs.load.Load.any_tells.Given as goal

abbrev pub invariant-loop-other : goal.invariant-loop-other
invariant-loop-other l = Searching (λ j _. IsTrue (tells (loaded_by l.view l.self) l.id j (get (loaded_by l.view l.self).forms j))) l.view.forms l.other-iterator
