-- What a text that is built up has, and what adding to it answers and leaves.
use Rattle.std.specs.Prelude.{◌≡◌, ◌⊎◌, ℕ, ◌+◌, ◌*◌, ◌<◌, ◌≤◌, List, ◌++◌, length, vec_capacity, Result, Ok}
use Rattle.std.specs.Prelude.{Err}
use Rattle.heap_rule.specs.Layout.{MAX}
use Rattle.heap_build.specs.declared.builder.Builder.{Builder}
use Rattle.heap_build.specs.declared.faults.BuildFault.{BuildFault}
use Rattle.heap_build.specs.declared.faults.BuildFault.TheVariants.{NoMemory, TooLong}
use Rattle.heap_build.specs.declared.faults.DecodeFault.{DecodeFault}
use Rattle.heap_build.specs.declared.faults.DecodeFault.TheVariants.{Malformed, NotAdded}
use Rattle.heap_build.specs.Spelled.{IsSpellingUpTo}

-- the units so far
abbrev pub units_so_far : Builder → List ℕ
units_so_far b = b.units.items

-- how many units there is room for without further memory
abbrev pub room_in : Builder → ℕ
room_in b = vec_capacity b.units

-- Units were added; or nothing was, since the text would be longer than a string may be, or since it has no
-- room for them and memory runs out.
abbrev pub AddsUnits : Builder → Builder → List ℕ → Result (Unit {0}) BuildFault → Type 0
AddsUnits o p us (Ok u) = (units_so_far p ≡ units_so_far o ++ us)
    × (length (units_so_far o) + length us ≤ MAX)
AddsUnits o p us (Err TooLong) = (units_so_far p ≡ units_so_far o)
    × (MAX < length (units_so_far o) + length us)
AddsUnits o p us (Err NoMemory) = (units_so_far p ≡ units_so_far o)
    × (length (units_so_far o) + length us ≤ MAX)
    × (room_in o < length (units_so_far o) + length us)

-- The units that bytes spell were added; or nothing was, since the bytes spell none, or for one of those
-- reasons. More than three bytes for each unit that a string may have are too long whatever they spell.
abbrev pub AddsSpelled : (List ℕ → List ℕ → Type 0) → Builder → Builder → List ℕ
    → Result (Unit {0}) DecodeFault → Type 0
AddsSpelled Spells o p bytes (Ok u) = (us : List ℕ) × Spells bytes us × AddsUnits o p us (Ok u)
AddsSpelled Spells o p bytes (Err (Malformed at)) = (units_so_far p ≡ units_so_far o)
    × IsSpellingUpTo Spells bytes at
AddsSpelled Spells o p bytes (Err (NotAdded f)) =
    ((us : List ℕ) × Spells bytes us × AddsUnits o p us (Err f))
    ⊎ ((f ≡ TooLong) × (3 * MAX < length bytes) × (units_so_far p ≡ units_so_far o))
