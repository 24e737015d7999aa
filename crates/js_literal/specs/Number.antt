-- Number literals, on characters: decimal integers without a leading zero, up to 2^53 - 1 (ECMA-262, "Numeric
-- Literals", "DecimalIntegerLiteral"). Every other form of the standard is refused, by the first rule that
-- applies.
use Rattle.std.specs.Prelude.{fold}
use Rattle.std.specs.Prelude.{◌≡◌, ℕ, ◌+◌, ◌-◌, ◌*◌, ◌<◌, List, [], ◌∷◌, Bool, true, false, nat_lt, nat_le}
use Rattle.std.specs.Prelude.{◌==◌, ◌&&◌, ◌||◌, if◌then◌else◌, length, slice_index, Result, Ok, Err}
use Rattle.js_literal.specs.Place.{StandsAt}
use Rattle.js_literal.specs.Literal.{is_digit, begins_with}
use Rattle.js_literal.specs.declared.fault.NumberFault.{NumberFault}
use Rattle.js_literal.specs.declared.fault.NumberFault.TheVariants as faults

-- the longest run of digits in front
abbrev pub digits_of : List ℕ → List ℕ
digits_of [] = []
digits_of (c ∷ cs) = if is_digit c then c ∷ digits_of cs else []

-- what follows the longest run in front of characters that pass this test
abbrev pub after_run : (ℕ → Bool) → List ℕ → List ℕ
after_run test [] = []
after_run test (c ∷ cs) = if test c then after_run test cs else c ∷ cs

-- the value of digits that follow a number with the value v
abbrev pub spelled_number : ℕ → List ℕ → ℕ
spelled_number v cs = fold (λ n c. 10 * n + (c - 48)) v cs

-- a first digit 0 that a digit follows
abbrev pub has_leading_zero : List ℕ → Bool
has_leading_zero [] = false
has_leading_zero (c ∷ cs) = c == 48 && begins_with is_digit cs

-- a letter A to Z or a to z, _ or $
abbrev pub is_word_start : ℕ → Bool
is_word_start c = (nat_le 65 c && nat_le c 90) || (nat_le 97 c && nat_le c 122) || c == 95 || c == 36

-- a number begins here: a digit, or a point that a digit follows
abbrev pub begins_number : List ℕ → Bool
begins_number [] = false
begins_number (c ∷ cs) = is_digit c || (c == 46 && begins_with is_digit cs)

-- the value and what follows, or the fault of the first rule that refuses it, by the byte of the literal; a
-- letter, _, $ or a backslash may not follow the digits
abbrev pub number_at : List ℕ → Result (ℕ × List ℕ) (ℕ → NumberFault)
number_at s = if begins_with (λ c. c == 46) s then Err faults.Fraction else
    (if has_leading_zero s then Err faults.OtherForm else
    (if begins_with (λ c. c == 46) (after_run is_digit s) then Err faults.Fraction else
    (if begins_with (λ c. is_word_start c || c == 92) (after_run is_digit s) then Err faults.OtherForm else
    (if nat_lt 9007199254740991 (spelled_number 0 (digits_of s)) then Err faults.TooLarge else
    Ok (spelled_number 0 (digits_of s), after_run is_digit s)))))

-- a number literal with this value is at byte at and ends before byte end
pub record NumberOf (text : List ℕ) (at value end : ℕ) : Type 0 where
  pub s : List ℕ
  pub rest : List ℕ
  pub starts : StandsAt text at s
  pub begins : begins_number s ≡ true
  pub reads : number_at s ≡ Ok (value, rest)
  pub ends : StandsAt text end rest

-- a number literal begins at byte at and has this fault
pub record NumberFaultOf (text : List ℕ) (at : ℕ) (fault : NumberFault) : Type 0 where
  pub s : List ℕ
  pub kind : ℕ → NumberFault
  pub starts : StandsAt text at s
  pub begins : begins_number s ≡ true
  pub reads : number_at s ≡ Err kind
  pub is_fault : fault ≡ kind at

-- a digit is at byte at, or a point and a digit
abbrev pub BeginsNumber : List ℕ → ℕ → Type 0
BeginsNumber text at = (at < length text) × ((is_digit (slice_index text at)
    || (slice_index text at == 46 && is_digit (slice_index text (at + 1)))) ≡ true)
