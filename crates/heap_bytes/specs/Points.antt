-- The code points that bytes spell, which of them may follow one another, and the units that they have.
use Rattle.std.specs.Prelude.{◌≡◌, ℕ, ◌<◌, Bool, true, false, not, ◌&&◌, nat_lt, List, [], ◌∷◌, ◌++◌}
use Rattle.std.specs.Prelude.{length, take, encode_utf8, encode_utf8_all, Result, Ok, Err}
use lib.Utf8.{scalar}
use Rattle.std.specs.Str.{chars}
use Rattle.js_units.specs.Text.{is_lead, is_trail, utf16_of}
use Rattle.heap_bytes.specs.declared.encoding.Encoding.{Encoding}
use Rattle.heap_bytes.specs.declared.encoding.Encoding.TheVariants.{Utf8, Wtf8}

-- the units of these code points (ECMA-262, "CodePointsToString")
abbrev pub utf16 : List ℕ → List ℕ
utf16 [] = []
utf16 (c ∷ cs) = utf16_of c ++ utf16 cs

-- A code point may follow another one, which is a leading surrogate or not: in UTF-8 where it is no
-- surrogate, in WTF-8 where it doesn't make a pair with the one before it.
abbrev pub may_follow : Encoding → Bool → ℕ → Bool
may_follow Utf8 lead c = scalar c
may_follow Wtf8 lead c = nat_lt c 0x110000 && not (lead && is_trail c)

-- the code points may follow one another, behind such a one
abbrev pub allowed : Encoding → Bool → List ℕ → Bool
allowed e lead [] = true
allowed e lead (c ∷ cs) = may_follow e lead c && allowed e (is_lead c) cs

-- bytes that spell code points which may follow such a one
pub record IsSpelled (e : Encoding) (lead : Bool) (bytes : List ℕ) : Type 0 where
  pub same : encode_utf8_all (chars bytes) ≡ bytes
  pub row : allowed e lead (chars bytes) ≡ true

-- the first n bytes are the longest front that spells any
pub record IsSpelledUpTo (e : Encoding) (bytes : List ℕ) (n : ℕ) : Type 0 where
  pub short : n < length bytes
  pub front : IsSpelled e false (take n bytes)
  pub longest : (m : ℕ) → n < m → ¬ (IsSpelled e false (take m bytes))

-- how many units bytes spell, or the length of the longest front that spells some
abbrev pub IsMeasured : Encoding → List ℕ → Result ℕ ℕ → Type 0
IsMeasured e bytes (Ok n) = IsSpelled e false bytes × (n ≡ length (utf16 (chars bytes)))
IsMeasured e bytes (Err n) = IsSpelledUpTo e bytes n

-- no code point begins these bytes
abbrev pub BeginsNone : List ℕ → Type 0
BeginsNone bytes = (c : ℕ) (rest : List ℕ) → c < 0x110000 → ¬ (bytes ≡ encode_utf8 c ++ rest)

-- the numbers are code points
abbrev pub are_points : List ℕ → Bool
are_points [] = true
are_points (c ∷ cs) = nat_lt c 0x110000 && are_points cs

-- bytes that spell code points, whatever they are
pub record IsRead (bytes : List ℕ) : Type 0 where
  pub same : encode_utf8_all (chars bytes) ≡ bytes
  pub points : are_points (chars bytes) ≡ true
