-- Conversions, sums, order and strings of numbers (ECMA-262, "Type Conversion" and "The Number Type").
use Rattle.std.specs.Prelude.{ℕ, Bool, true, false, List, Option, Some, None, nat_le, if◌then◌else◌, ℤ, pos}
use Rattle.std.specs.Prelude.{◌+ℤ◌, neg_ℤ, int_lt, unsigned_abs, codes}
use Rattle.std.specs.Int.{int_rem_euclid}
use Rattle.std.specs.Fmt.{signed_decimal}
use Rattle.js_number.specs.declared.Num.{Num}
use Rattle.js_number.specs.declared.Num.TheVariants.{Int, NaN, PosInf, NegInf}
use Rattle.js_number.specs.Places.{clamped}

-- the value modulo m, in 0..m - 1, and 0 of what is not whole ("ToUint16", "ToUint32")
abbrev pub modulo : ℕ → Num → ℕ
modulo m (Int z) = unsigned_abs (int_rem_euclid z (pos m))
modulo m n = 0

-- "ToLength"
abbrev pub length_of : Num → ℕ
length_of n = clamped n 9007199254740991

-- a whole number, where it is in the range of the profile
abbrev pub whole : ℤ → Option Num
whole z = if nat_le (unsigned_abs z) 9007199254740991 then Some (Int z) else None

-- "Number::unaryMinus"
abbrev pub negative : Num → Num
negative (Int z) = Int (neg_ℤ z)
negative NaN = NaN
negative PosInf = NegInf
negative NegInf = PosInf

-- "Number::add", where a sum of whole numbers is in the range
abbrev pub sum : Num → Num → Option Num
sum (Int a) (Int b) = whole (a +ℤ b)
sum (Int a) n = Some n
sum NaN n = Some NaN
sum m (Int b) = Some m
sum PosInf PosInf = Some PosInf
sum NegInf NegInf = Some NegInf
sum _ _ = Some NaN

-- "Number::subtract"
abbrev pub difference : Num → Num → Option Num
difference m n = sum m (negative n)

-- "Number::lessThan", which gives nothing where one is NaN
abbrev pub below : Num → Num → Option Bool
below NaN n = None
below (Int a) (Int b) = Some (int_lt a b)
below m NaN = None
below PosInf n = Some false
below m PosInf = Some true
below NegInf (Int b) = Some true
below _ _ = Some false

-- "Number::toString" with radix 10
abbrev pub text_of : Num → List ℕ
text_of (Int z) = signed_decimal z
text_of NaN = codes "NaN"
text_of PosInf = codes "Infinity"
text_of NegInf = codes "-Infinity"
