use Rattle.std.proofs.Common.{◌≡◌}
use Rattle.heap_core_views.proofs.Searches.{Searching}
use Rattle.heap_core_births.proofs.moves.is_in_slot.Given as goal

abbrev pub invariant-loop-slot : goal.invariant-loop-slot
invariant-loop-slot l = Searching (λ _ x. x ≡ l.id) l.view.slots l._slot-iterator
