-- What the methods give that build another string, and what they use of a store.
use Rattle.std.specs.Prelude.{◌≡◌, ℕ, Bool, true, false, nat_le, List, [], pos, Option, Some, None, Result}
use Rattle.std.specs.Prelude.{Ok, Err, ◌+◌, ◌-◌, ◌*◌, ◌%◌, ◌≤◌, length, take, ◌++◌, ◌<◌}
use Rattle.std.specs.List.{flat_map, list_all, repeat}
use Rattle.js_units.specs.Text.{utf16_of}
use Rattle.js_number.specs.declared.Num.{Num}
use Rattle.js_number.specs.declared.Num.TheVariants.{Int, NaN}
use Rattle.js_texts.specs.declared.faults.Cause.TheVariants.{BadCodePoint, BadCount, TooLong as Length}
use Rattle.js_texts.specs.declared.faults.MethodFault.{MethodFault}
use Rattle.js_texts.specs.declared.faults.MethodFault.TheVariants.{RangeError, Store}
use Rattle.js_texts.specs.declared.faults.Cause.{Cause}

-- the filler repeated and cut to n units, where it has any
abbrev pub filling : List ℕ → ℕ → List ℕ
filling filler n = take n (repeat n filler)

-- "String.prototype.padStart", "String.prototype.padEnd": what is missing at `most` units is filled,
-- before or behind
abbrev pub pad_start_of : List ℕ → ℕ → List ℕ → List ℕ
pad_start_of u most filler = filling filler (most - length u) ++ u

abbrev pub pad_end_of : List ℕ → ℕ → List ℕ → List ℕ
pad_end_of u most filler = u ++ filling filler (most - length u)

-- the last copy of a filler of m units is cut, where n units are missing: it is then that the filler is read
abbrev pub CutsFiller : ℕ → ℕ → Type 0
CutsFiller n m = (1 ≤ m) × (1 ≤ n % m)

-- Few units are put together at once, and then the string is read too: at most 32 are asked for, some are
-- missing, the filler has some, and the string is too short for a rope.
abbrev pub ReadsBoth : ℕ → ℕ → ℕ → Type 0
ReadsBoth most n m = (most ≤ 32) × (n < most) × (1 ≤ m) × (n < 13)

-- what a pad uses at most, where its filler has m units: it settles the filler, and else only a string that
-- is too short for a rope
abbrev pub pad_used_ids : ℕ
pad_used_ids = 120

abbrev pub pad_used_words : ℕ → ℕ
pad_used_words m = 2 * m + 1000

-- whether the integer or infinity of the number is a count, neither negative nor infinite
abbrev pub is_count : Num → Bool
is_count (Int (pos n)) = true
is_count NaN = true
is_count _ = false

-- how many copies a count asks for
abbrev pub copies : Num → ℕ
copies (Int (pos n)) = n
copies n = 0

-- "String.prototype.repeat": so many copies of the string, appended together
abbrev pub repeat_of : List ℕ → Num → List ℕ
repeat_of u count = repeat (copies count) u

-- it throws exactly where the number is no count, or else where the n units of its result are more than the
-- limit, and says how many
abbrev pub IsCountFault : Bool → Cause → ℕ → ℕ → Type 0
IsCountFault false c limit n = c ≡ BadCount
IsCountFault true c limit n = (limit < n) × (c ≡ Length n)

abbrev pub IsRepeatFault : MethodFault → Bool → ℕ → ℕ → Type 0
IsRepeatFault (RangeError c) counts limit n = IsCountFault counts c limit n
IsRepeatFault (Store f) counts limit n = Unit {0}

abbrev pub ThrowsCount : {R : Type 0} → Result R MethodFault → Bool → ℕ → ℕ → Type 0
ThrowsCount (Ok r) counts limit n = (counts ≡ true) × (n ≤ limit)
ThrowsCount (Err f) counts limit n = IsRepeatFault f counts limit n

-- what `repeat` uses at most, whatever its string and its count are: it settles nothing
abbrev pub repeat_used_ids : ℕ
repeat_used_ids = 96

abbrev pub repeat_used_words : ℕ
repeat_used_words = 512

-- whether the number is a code point, a whole number in 0..10FFFF hexadecimal
abbrev pub is_code_point : Num → Bool
is_code_point (Int (pos n)) = nat_le n 0x10FFFF
is_code_point n = false

-- "String.fromCodePoint": the one or two units of each code point
abbrev pub code_units : Num → List ℕ
code_units (Int (pos n)) = utf16_of n
code_units n = []

abbrev pub code_units_of : List Num → List ℕ
code_units_of points = flat_map code_units points

-- it throws exactly where one of the numbers is no code point
abbrev pub IsBadPoint : MethodFault → List Num → Type 0
IsBadPoint (RangeError c) points = (list_all is_code_point points ≡ false) × (c ≡ BadCodePoint)
IsBadPoint (Store f) points = Unit {0}

abbrev pub ThrowsBadPoint : {R : Type 0} → Result R MethodFault → List Num → Type 0
ThrowsBadPoint (Ok r) points = list_all is_code_point points ≡ true
ThrowsBadPoint (Err f) points = IsBadPoint f points

-- the units of the code points, exactly where all numbers are code points
abbrev pub PointsAnswer : Option (List ℕ) → List Num → Type 0
PointsAnswer (Some u) points = (list_all is_code_point points ≡ true) × (u ≡ code_units_of points)
PointsAnswer None points = list_all is_code_point points ≡ false
