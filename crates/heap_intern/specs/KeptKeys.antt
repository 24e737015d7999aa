-- The short lists of units that were interned or found last, each with its interned string and its slot.
use Rattle.std.specs.Prelude.{◌≡◌, ℕ, ◌≤◌, List, take, Some}
use Rattle.std.specs.List.{slice_get}
use Rattle.heap_rule.specs.declared.view.View.{View}
use Rattle.heap_intern.specs.declared.table.kept.KeptKey.{KeptKey}
use Rattle.heap_intern.specs.declared.table.probing.Seat.{Seat}
use Rattle.heap_intern.specs.Seats.{IsSeatOf}

-- the entry has the units us, with this string
abbrev pub HasKept : KeptKey → List ℕ → Seat → Type 0
HasKept k us s = (k.len ≤ 16) × (take k.len k.units ≡ us) × (k.seat ≡ s)

-- where the entry has a list, its string is the interned one of that, and in its slot
abbrev pub IsKeptKey : View → KeptKey → Type 0
IsKeptKey v k = k.len ≤ 16 → IsSeatOf v (take k.len k.units) k.seat

abbrev pub AreKeptKeys : View → List KeptKey → Type 0
AreKeptKeys v keys = (i : ℕ) (k : KeptKey) → slice_get keys i ≡ Some k → IsKeptKey v k
