-- Which slot has the interned string of which id, as an agent notes it: then interning the string again is
-- one load of that slot.
use Rattle.std.specs.Prelude.{ℕ, ◌-◌, ◌<◌, ◌==◌, Bool, false, List, slice_index, Option, Some, None, IsTrue}
use Rattle.std.specs.Prelude.{Result, Ok, Err}
use Rattle.std.specs.FinMap.{get}
use Rattle.js_header.specs.declared.form.Form.{Form}
use Rattle.js_header.specs.declared.form.Form.TheVariants.{Unborn, Flat, Cons, Sliced, Thin}
use Rattle.heap_rule.specs.declared.view.View.{View}
use Rattle.heap_rule.specs.Maps.{Has, HasKey}
use Rattle.heap_rule.specs.Paths.{rank}
use Rattle.heap_rule.specs.SlotTests.{shut_at}
use Rattle.heap_intern.specs.declared.table.faults.TableFull.{TableFull}
use Rattle.heap_intern.specs.declared.table.probing.Seat.{Seat}

-- the form is known, and is a fixed Flat
abbrev pub is_fixed_form : Option Form → Bool
is_fixed_form None = false
is_fixed_form (Some Unborn) = false
is_fixed_form (Some (Flat wide start fixed)) = fixed
is_fixed_form (Some (Cons wide left right)) = false
is_fixed_form (Some (Sliced wide parent offset)) = false
is_fixed_form (Some (Thin target)) = false

-- the form is known, and forwards to string t or is a fixed Flat
abbrev pub is_forwarded : ℕ → Option Form → Bool
is_forwarded t None = false
is_forwarded t (Some Unborn) = false
is_forwarded t (Some (Flat wide start fixed)) = fixed
is_forwarded t (Some (Cons wide left right)) = false
is_forwarded t (Some (Sliced wide parent offset)) = false
is_forwarded t (Some (Thin target)) = target == t

-- String t in slot k has the units us, is a fixed Flat, and each slot before k on the path of us is known to
-- be used by a string that differs.
abbrev pub IsSeatFor : View → List ℕ → ℕ → ℕ → Type 0
IsSeatFor v us t k = Has v.units t us × IsTrue (is_fixed_form (get v.forms t))
    × ((j : ℕ) → j < v.sizes.slots → rank us v.sizes.slots j < rank us v.sizes.slots k
    → IsTrue (shut_at v us j))

-- Slot k is the one of the string with the units of string s: what the view saw there is so, and s forwards
-- to it, unless it is a fixed Flat.
abbrev pub IsSeated : View → ℕ → ℕ → Type 0
IsSeated v s k = HasKey v.units s × HasKey v.slots k
    × ((t : ℕ) (us : List ℕ) → Has v.slots k t → Has v.units s us
    → IsSeatFor v us t k × IsTrue (is_forwarded t (get v.forms s)))

-- at each place is 0, or one above the slot for the string of that number
abbrev pub AreSeats : View → List ℕ → Type 0
AreSeats v seats = (s : ℕ) → 0 < slice_index seats s → IsSeated v s (slice_index seats s - 1)

-- the number of the string of an answer with its slot
abbrev pub id_in : Result Seat TableFull → Result ℕ TableFull
id_in (Ok s) = Ok s.id
id_in (Err f) = Err f

-- the interned string of the units us, and the slot that it is in
abbrev pub IsSeatOf : View → List ℕ → Seat → Type 0
IsSeatOf v us s = Has v.slots s.slot s.id × Has v.units s.id us × IsSeated v s.id s.slot
