use Rattle.std.proofs.Common.{subst, sym}
use Rattle.heap_rule.specs.declared.view.View.{View}
use Rattle.heap_intern.specs.declared.table.probing.Seat.{Seat}
use Rattle.heap_intern.specs.KeptKeys.{AreKeptKeys}
use Rattle.heap_intern.specs.Seats.{IsSeatOf}
use Rattle.heap_notes.proofs.NotesStay.{some_then}
use Rattle.heap_notes.proofs.seats.Seats.find_list.Goals as goal

pub returns-clause-found : goal.returns-clause-found
returns-clause-found c = some_then c.find_kept-found.result _ _
    (λ s h v k. h v (subst (AreKeptKeys v) (sym c.as_slice.ensures.value) (c.reach_keys.ensures.keys v k))) c.find_kept-found.ensures
