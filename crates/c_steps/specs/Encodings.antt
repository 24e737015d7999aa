-- How bytes that C gives spell units, by the number of their encoding.
use Rattle.std.specs.Prelude.{◌≡◌, ℕ, ◌≤◌, ◌==◌, if◌then◌else◌, List, length, Result, Ok, Err}
use Rattle.heap_rule.specs.Layout.{MAX}
use Rattle.heap_bytes.specs.declared.spelling.Spelling.{Spelling}
use Rattle.heap_bytes.specs.Spellings.{IsReadable, spelling_units}
use Rattle.heap_build.specs.Spelled.{IsSpellingUpTo, SpellsUtf8, SpellsWtf8}
use Rattle.c_steps.specs.declared.encoding.TextEncoding.{TextEncoding}
use Rattle.c_steps.specs.declared.encoding.TextEncoding.TheVariants.{Latin1, Utf8, Wtf8}

-- the encoding, by its number in C
abbrev pub encoding_by : ℕ → TextEncoding
encoding_by n = if n == 0 then Latin1 else (if n == 1 then Utf8 else Wtf8)

-- bytes of Latin-1 spell a unit each
abbrev pub SpellsLatin1 : List ℕ → List ℕ → Type 0
SpellsLatin1 bytes us = us ≡ bytes

-- which units bytes of an encoding spell
abbrev pub spells_in : TextEncoding → List ℕ → List ℕ → Type 0
spells_in Latin1 = SpellsLatin1
spells_in Utf8 = SpellsUtf8
spells_in Wtf8 = SpellsWtf8

-- how many bytes may be decoded; of Latin-1 any number
abbrev pub MayDecode : TextEncoding → ℕ → Type 0
MayDecode Latin1 n = Unit {0}
MayDecode Utf8 n = n ≤ MAX
MayDecode Wtf8 n = n ≤ MAX

-- there is such an encoding, and so many bytes of it may be decoded
abbrev pub IsDecodable : ℕ → ℕ → Type 0
IsDecodable number n = (number ≤ 2) × MayDecode (encoding_by number) n

-- what bytes of an encoding spell, or the length of the longest front that spells some units
abbrev pub IsDecodedAs : TextEncoding → List ℕ → Result Spelling ℕ → Type 0
IsDecodedAs e bytes (Ok s) = IsReadable s × spells_in e bytes (spelling_units s)
    × (length (spelling_units s) ≤ length bytes)
IsDecodedAs e bytes (Err n) = IsSpellingUpTo (spells_in e) bytes n
