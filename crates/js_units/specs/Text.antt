-- What code units are, and what a list of them encodes (ECMA-262, "The String Type", "CodePointAt",
-- "String.prototype.toWellFormed").
use Rattle.std.specs.Prelude.{ℕ, ◌+◌, ◌-◌, ◌*◌, ◌/◌, ◌%◌, Bool, ◌&&◌, ◌||◌, nat_le, nat_lt, ◌==◌}
use Rattle.std.specs.Prelude.{if◌then◌else◌, List, [], ◌∷◌, encode_utf8_all}

-- a leading surrogate, D800 to DBFF, and a trailing one, DC00 to DFFF
abbrev pub is_lead : ℕ → Bool
is_lead u = nat_le 0xD800 u && nat_lt u 0xDC00

-- a trailing surrogate, DC00 to DFFF
abbrev pub is_trail : ℕ → Bool
is_trail u = nat_le 0xDC00 u && nat_lt u 0xE000

-- the code point of a surrogate pair ("UTF16SurrogatePairToCodePoint")
abbrev pub pair_value : ℕ → ℕ → ℕ
pair_value lead trail = (lead - 0xD800) * 0x400 + (trail - 0xDC00) + 0x10000

-- the one or two units of a code point ("UTF16EncodeCodePoint")
abbrev pub utf16_of : ℕ → List ℕ
utf16_of c = if nat_lt c 0x10000 then c ∷ []
    else (0xD800 + (c - 0x10000) / 0x400) ∷ (0xDC00 + (c - 0x10000) % 0x400) ∷ []

-- a blank character: WhiteSpace and LineTerminator, which is also what trimming removes ("TrimString")
abbrev pub is_blank : ℕ → Bool
is_blank u = (nat_le 0x9 u && nat_le u 0xD) || u == 0x20 || u == 0xA0 || u == 0x1680
    || (nat_le 0x2000 u && nat_le u 0x200A)
    || u == 0x2028 || u == 0x2029 || u == 0x202F || u == 0x205F || u == 0x3000 || u == 0xFEFF

-- a unit that is in no pair, U+FFFD where it is a surrogate
abbrev pub alone : ℕ → ℕ
alone u = if is_lead u || is_trail u then 0xFFFD else u

-- the units, with U+FFFD for each unpaired surrogate ("String.prototype.toWellFormed")
abbrev pub well : List ℕ → List ℕ
well [] = []
well (u ∷ []) = alone u ∷ []
well (u ∷ v ∷ us) = if is_lead u && is_trail v then u ∷ v ∷ well us else alone u ∷ well (v ∷ us)

-- the code points of units, each unpaired surrogate as itself ("StringToCodePoints")
abbrev pub points : List ℕ → List ℕ
points [] = []
points (u ∷ []) = u ∷ []
points (u ∷ v ∷ us) = if is_lead u && is_trail v then pair_value u v ∷ points us else u ∷ points (v ∷ us)

-- the UTF-8 of the well-formed list, which is what printing writes
abbrev pub utf8 : List ℕ → List ℕ
utf8 us = encode_utf8_all (points (well us))
