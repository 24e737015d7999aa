-- The units that bytes spell, and pieces of them.
use Rattle.std.specs.Prelude.{◌≡◌, ℕ, ◌<◌, ◌≤◌, List, ◌++◌, length, take, false, Result, Ok, Err}
use Rattle.std.specs.Str.{chars}
use Rattle.heap_bytes.specs.declared.encoding.Encoding.{Encoding}
use Rattle.heap_bytes.specs.declared.spelling.Spelling.{Spelling}
use Rattle.heap_bytes.specs.declared.spelling.Spelling.TheVariants.{Latin1, Points}
use Rattle.heap_bytes.specs.Points.{IsRead, IsSpelled, IsSpelledUpTo, utf16}

-- the units: of Latin-1 one for each byte, and else those of the code points
abbrev pub spelling_units : Spelling → List ℕ
spelling_units (Latin1 bytes) = bytes.now
spelling_units (Points bytes len) = utf16 (chars bytes.now)

-- the bytes spell units, and so many as are noted
abbrev pub IsReadable : Spelling → Type 0
IsReadable (Latin1 bytes) = Unit {0}
IsReadable (Points bytes len) = IsRead bytes.now × (len ≡ length (utf16 (chars bytes.now)))

-- what bytes of UTF-8 or WTF-8 spell; or the length of the longest front that spells some
abbrev pub IsReadAs : Encoding → List ℕ → Result Spelling ℕ → Type 0
IsReadAs e bytes (Ok s) = IsSpelled e false bytes × IsReadable s × (spelling_units s ≡ utf16 (chars bytes))
IsReadAs e bytes (Err n) = IsSpelledUpTo e bytes n

-- the first units are the first `count` in the room, and what is left spells the others
pub record IsFront (s : Spelling) (room : List ℕ) (count : ℕ) (rest : Spelling) : Type 0 where
  pub some : 0 < count
  pub most : count ≤ length room
  pub split : spelling_units s ≡ take count room ++ spelling_units rest
  pub read : IsReadable rest
