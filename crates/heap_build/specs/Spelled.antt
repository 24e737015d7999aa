-- The units that bytes spell, in UTF-8 and in WTF-8.
use Rattle.std.specs.Prelude.{◌≡◌, ℕ, ◌<◌, ◌^◌, List, length, take, All}
use Rattle.std.specs.Str.{IsUtf8, chars}
use Rattle.heap_bytes.specs.Points.{utf16}
use Rattle.heap_export.specs.Encoded.{wtf8}

-- the units of the characters that bytes of UTF-8 spell
abbrev pub utf8_decoded : List ℕ → List ℕ
utf8_decoded bytes = utf16 (chars bytes)

-- bytes of UTF-8 spell the units of their characters
abbrev pub SpellsUtf8 : List ℕ → List ℕ → Type 0
SpellsUtf8 bytes us = IsUtf8 bytes × (us ≡ utf8_decoded bytes)

-- Bytes spell units as WTF-8 has it where they are what is written for the units with each unpaired surrogate
-- kept.
abbrev pub SpellsWtf8 : List ℕ → List ℕ → Type 0
SpellsWtf8 bytes us = All (λ u. u < 2 ^ 16) us × (bytes ≡ wtf8 us)

-- the bytes spell some units
abbrev pub IsSpelling : (List ℕ → List ℕ → Type 0) → List ℕ → Type 0
IsSpelling Spells bytes = (us : List ℕ) × Spells bytes us

-- the first n bytes are the longest front that spells units, and more bytes follow
pub record IsSpellingUpTo (Spells : List ℕ → List ℕ → Type 0) (bytes : List ℕ) (n : ℕ) : Type 0 where
  pub short : n < length bytes
  pub front : IsSpelling Spells (take n bytes)
  pub longest : (m : ℕ) → n < m → ¬ (IsSpelling Spells (take m bytes))
