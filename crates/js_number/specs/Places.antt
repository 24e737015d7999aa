-- What a valid number is, and the place in 0..n that a number names.
use Rattle.std.specs.Prelude.{ℕ, ◌+◌, ◌-◌, ◌≤◌, min, pos, negsuc, unsigned_abs}
use Rattle.js_number.specs.declared.Num.{Num}
use Rattle.js_number.specs.declared.Num.TheVariants.{Int, NaN, PosInf, NegInf}

-- a whole number has magnitude at most 2^53 - 1
abbrev pub IsLawful : Num → Type 0
IsLawful (Int z) = unsigned_abs z ≤ 9007199254740991
IsLawful NaN = Unit {0}
IsLawful PosInf = Unit {0}
IsLawful NegInf = Unit {0}

-- "ToIntegerOrInfinity"
abbrev pub integer_of : Num → Num
integer_of (Int z) = Int z
integer_of NaN = Int (pos 0)
integer_of PosInf = PosInf
integer_of NegInf = NegInf

-- the integer or infinity of the number, clamped to 0..high
abbrev pub clamped : Num → ℕ → ℕ
clamped (Int (pos n)) high = min n high
clamped PosInf high = high
clamped _ high = 0

-- the same with len added to a negative one, which is -(n + 1) for `negsuc n`, clamped to 0..len
abbrev pub relative : Num → ℕ → ℕ
relative (Int (pos n)) len = min n len
relative (Int (negsuc n)) len = len - (n + 1)
relative PosInf len = len
relative _ len = 0
