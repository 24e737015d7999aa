-- The bytes of a string's units, as UTF-8, WTF-8 and Latin-1 have them.
use Rattle.std.specs.Prelude.{◌≡◌, ℕ, ◌+◌, ◌<◌, ◌≤◌, Bool, ◌&&◌, ◌||◌, nat_lt, if◌then◌else◌, List, [], ◌∷◌}
use Rattle.std.specs.Prelude.{◌++◌, length, drop, Option, Some, None, Result, Ok, Err, encode_utf8_all}
use Rattle.js_units.specs.Text.{is_lead, is_trail, points, utf8}
use Rattle.heap_export.specs.declared.faults.Unpaired.{Unpaired}
use Rattle.heap_export.specs.declared.faults.Unpaired.TheVariants.{Refuse, Keep}
use Rattle.heap_export.specs.declared.faults.WriteFault.{WriteFault}
use Rattle.heap_export.specs.declared.faults.WriteFault.TheVariants.{NoRoom, Unmapped}

-- The UTF-8 of the code points, where an unpaired surrogate is a code point like any other (WTF-8,
-- "Encoding WTF-8").
abbrev pub wtf8 : List ℕ → List ℕ
wtf8 us = encode_utf8_all (points us)

-- a code point that is a surrogate: among the code points of units, one that is unpaired
abbrev pub is_unpaired : ℕ → Bool
is_unpaired c = is_lead c || is_trail c

-- The place of the first unpaired surrogate, where the first unit has place k (ECMA-262,
-- "IsStringWellFormedUnicode").
abbrev pub unpaired : ℕ → List ℕ → Option ℕ
unpaired k [] = None
unpaired k (u ∷ []) = if is_unpaired u then Some k else None
unpaired k (u ∷ v ∷ us) =
    if is_lead u && is_trail v then unpaired (k + 2) us
    else (if is_unpaired u then Some k else unpaired (k + 1) (v ∷ us))

-- the place of the first unit that isn't of one byte, where the first unit has place k
abbrev pub past_latin1 : ℕ → List ℕ → Option ℕ
past_latin1 k [] = None
past_latin1 k (u ∷ us) = if nat_lt 255 u then Some k else past_latin1 (k + 1) us

-- the bytes that are written for units
abbrev pub bytes_of : Unpaired → List ℕ → List ℕ
bytes_of Keep us = wtf8 us
bytes_of _ us = utf8 us

-- the place at which writing them is refused, if it is
abbrev pub refused : Unpaired → List ℕ → Option ℕ
refused Refuse us = unpaired 0 us
refused _ us = None

-- These bytes were written to the front of a list, all or none, unless there is such a place.
abbrev pub IsEncodedInto : Option ℕ → List ℕ → List ℕ → List ℕ → Result ℕ WriteFault → Type 0
IsEncodedInto place bs old new (Ok n) =
    (place ≡ None) × (n ≡ length bs) × (n ≤ length old) × (new ≡ bs ++ drop n old)
IsEncodedInto place bs old new (Err (NoRoom n)) =
    (place ≡ None) × (n ≡ length bs) × (length old < n) × (new ≡ old)
IsEncodedInto place bs old new (Err (Unmapped at)) = (place ≡ Some at) × (new ≡ old)
