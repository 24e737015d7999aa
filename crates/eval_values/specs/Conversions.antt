-- Conversions of values.
use Rattle.std.specs.Prelude.{ℕ, ◌+◌, List, [], ◌∷◌, length, nat_eq, nat_le, if◌then◌else◌, pos, Bool, true}
use Rattle.std.specs.Prelude.{false, not, codes, is_some, bytes_eq}
use Rattle.js_number.specs.declared.Num.{Num}
use Rattle.js_number.specs.declared.Num.TheVariants.{Int, NaN}
use Rattle.js_number.specs.Arith.{text_of}
use Rattle.js_texts.specs.Joined.{joined as joined_list}
use Rattle.eval_values.specs.declared.value.Kind.TheVariants.{RangeError, TypeError}
use Rattle.js_item.specs.Seen.{Val}
use Rattle.js_item.specs.Contents.{Fields, undefined, null, bool, number, text, symbol, list, object}
use Rattle.js_item.specs.Puts.{value_by}
use Rattle.eval_values.specs.Outcome.{Converted, into, fails, Out, gave, ended, threw, unsupported, free}
use Rattle.eval_values.specs.Outcome.{cost, throwing}
use Rattle.eval_values.specs.Need.{reads, parts}

-- a new string of these units
abbrev pub spelled : List ℕ → Out (List ℕ)
spelled u = gave u (cost (reads (length u)))

-- the sum of what f gives of each element
abbrev pub sum_over : {A : Type 0} → (A → ℕ) → List A → ℕ
sum_over f [] = 0
sum_over f (x ∷ xs) = f x + sum_over f xs

-- the units of several strings together
abbrev pub list_units : List (List ℕ) → ℕ
list_units us = sum_over length us

-- the elements joined by commas
abbrev pub comma_joined : List (List ℕ) → List ℕ
comma_joined us = joined_list (44 ∷ []) us

-- the string of an array, unless it is longer than a string may be ("Array.prototype.toString"); where it
-- throws, the elements count alone
abbrev pub list_string : ℕ → List (List ℕ) → Out (List ℕ)
list_string limit us = if nat_le (length (comma_joined us)) limit
    then gave (comma_joined us) (cost (parts (length us) (list_units us + length (comma_joined us))))
    else throwing (parts (length us) (list_units us)) RangeError

-- whether an object has an own property `toString`, whose value is no function of the profile
abbrev pub own_to_string : Fields (List ℕ) → Bool
own_to_string fs = is_some (value_by (λ k. bytes_eq k (codes "toString")) fs)

-- ECMA-262, "ToString"; of an object "OrdinaryToPrimitive" and "Object.prototype.toString"
abbrev pub to_string : ℕ → Val → Out (List ℕ)
to_string limit undefined = spelled (codes "undefined")
to_string limit null = spelled (codes "null")
to_string limit (bool b) = spelled (if b then codes "true" else codes "false")
to_string limit (number n) = spelled (text_of n)
to_string limit (text u) = gave u free
to_string limit (symbol k) = ended (threw TypeError) free
to_string limit (list us) = list_string limit us
to_string limit (object fs) =
    if own_to_string fs then ended (threw TypeError) free else spelled (codes "[object Object]")

-- whether a value's primitive value is a string (ECMA-262, "ToPrimitive")
abbrev pub is_text : Val → Bool
is_text (text u) = true
is_text (list us) = true
is_text (object fs) = true
is_text _ = false

-- ECMA-262, "ToNumber", in an operation at a place, where the script ends with a string, an array or an
-- object, of which the profile leaves it out
abbrev pub to_number : ℕ → Val → Converted Num
to_number at undefined = into NaN
to_number at null = into (Int (pos 0))
to_number at (bool b) = into (if b then Int (pos 1) else Int (pos 0))
to_number at (number n) = into n
to_number at (symbol k) = fails (threw TypeError)
to_number at (object fs) = if own_to_string fs then fails (threw TypeError) else fails (unsupported at)
to_number at _ = fails (unsupported at)

abbrev pub number_truth : Num → Bool
number_truth (Int (pos n)) = not (nat_eq n 0)
number_truth NaN = false
number_truth _ = true

-- ECMA-262, "ToBoolean"
abbrev pub to_boolean : Val → Bool
to_boolean undefined = false
to_boolean null = false
to_boolean (bool b) = b
to_boolean (number n) = number_truth n
to_boolean (text u) = not (nat_eq (length u) 0)
to_boolean _ = true

-- the units of a value that is a string, or of the elements of an array, and of all such values
abbrev pub string_units : Val → ℕ
string_units (text u) = length u
string_units (list us) = list_units us
string_units _ = 0

abbrev pub all_units : List Val → ℕ
all_units vs = sum_over string_units vs

-- the same of values that were converted by ToString, where an array counts as its string does
abbrev pub text_units : Val → ℕ
text_units (text u) = length u
text_units (list us) = length (comma_joined us)
text_units _ = 0

-- the same of the arguments of a call, of which the first one was converted
abbrev pub first_text_units : List Val → ℕ
first_text_units [] = 0
first_text_units (v ∷ vs) = text_units v + all_units vs
