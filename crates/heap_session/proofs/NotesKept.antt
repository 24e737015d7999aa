-- What a session notes of the slots stays right over each call.
use Rattle.std.proofs.Common.{◌≡◌, ℕ, List, [], Some, None, sym, refl, ap, subst}
use Rattle.std.specs.Prelude.{unwrap_or}
use Rattle.std.specs.FinMap.{FinMap, get}
use Rattle.std.specs.Ordering.{nat_cmp}
use Rattle.heap_rule.specs.declared.view.View.{View}
use Rattle.heap_rule.specs.Maps.{Has}
use Rattle.heap_table.specs.Known.{KeepsKnown}
use Rattle.heap_intern.specs.declared.table.probing.Seat.{Seat}
use Rattle.heap_intern.specs.Adopted.{LoadsHere}
use Rattle.heap_intern.specs.Seats.{IsSeatOf}
use Rattle.heap_intern.specs.Hashes.{AreHashes, NotesHash}
use Rattle.heap_intern.proofs.Hashes.{hashes_kept, no_hashes}
use Rattle.heap_session.specs.declared.noted.Noted.{Noted}
use Rattle.heap_session.specs.Noted.{PassesNoted, hashes_in}

-- nothing is noted
pub none_noted : (v : View) (n : Noted) → hashes_in n ≡ [] → AreHashes v (hashes_in n)
none_noted v n e = subst (AreHashes v) (sym e) (no_hashes v)

-- a call that loads no slot, and answers nothing
pub notes_still : (v w : View) (us hashes : List ℕ) → KeepsKnown v w → w.slot_loads ≡ v.slot_loads → AreHashes v hashes
    → NotesHash v w us None hashes hashes
notes_still v w us hashes known loads right = record {
  right = hashes_kept v w known hashes right;
  room = refl;
  kept = λ k some. some;
  noted = λ i k e. let bad : None ≡ Some i = e in absurd (cc);
  passed = λ k apart. ap (λ (m : FinMap nat_cmp ℕ). unwrap_or (get m k) 0) loads;
}

-- a list that is interned by one load of its own slot
pub passes_again : (v w : View) (us hashes : List ℕ) (s : Seat) → AreHashes v hashes → IsSeatOf v us s → LoadsHere v w s.slot 1
    → PassesNoted hashes v w us
passes_again v w us hashes s right seat loads k apart = loads.others k (λ e. apart.1
    (((right k apart.0).1 s.id (subst (λ (i : ℕ). Has v.slots i s.id) (sym e) seat.0)).1 us seat.1))
