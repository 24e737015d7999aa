-- Operators on values.
use Rattle.std.specs.Prelude.{ℕ, ◌+◌, List, ◌++◌, length, Option, nat_le, if◌then◌else◌, Bool}
use Rattle.std.specs.Prelude.{true, false, not, ◌||◌}
use Rattle.std.specs.Option.{option_map_or}
use Rattle.js_number.specs.declared.Num.{Num}
use Rattle.js_number.specs.Arith.{sum, difference, negative}
use Rattle.eval_values.specs.declared.value.Kind.TheVariants.{RangeError}
use Rattle.js_item.specs.Seen.{Val}
use Rattle.js_item.specs.Contents.{bool, number, text, list, object}
use Rattle.eval_values.specs.Outcome.{Converted, into, fails, threw, Out, gave, free, bind, needing}
use Rattle.eval_values.specs.Outcome.{throwing, refuses, converts}
use Rattle.eval_values.specs.Need.{nothing, joins}
use Rattle.eval_values.specs.Conversions.{to_string, to_number, to_boolean, is_text}

-- a number of the profile, or none, which ends the script at the operator
abbrev pub in_profile : ℕ → Option Num → Out Val
in_profile at n = option_map_or (λ m. needing nothing (number m)) n (refuses at)

-- the sum of two values that are no strings, of which the left one is converted first
abbrev pub sum_in : ℕ → Val → Val → Out Val
sum_in at v w = converts nothing (to_number at v)
    (λ m. converts nothing (to_number at w) (λ n. in_profile at (sum m n)))

-- two conversions of which one that throws goes before one that ends the script otherwise, whatever its side
abbrev pub paired : {A B : Type 0} → Converted A → Converted B → Converted (A × B)
paired (into m) (into n) = into (m, n)
paired (fails (threw k)) _ = fails (threw k)
paired _ (fails e) = fails e
paired (fails e) _ = fails e

abbrev pub difference_in : ℕ → Val → Val → Out Val
difference_in at v w = converts nothing (paired (to_number at v) (to_number at w))
    (λ p. in_profile at (difference p.0 p.1))

-- two strings joined, unless they are longer together than a string may be; where nothing is joined,
-- it needs nothing
abbrev pub concatenated : ℕ → List ℕ → List ℕ → Out Val
concatenated limit u w = if nat_le (length u + length w) limit
    then needing joins (text (u ++ w)) else throwing nothing RangeError

-- two primitive values as strings, joined
abbrev pub joined_strings : ℕ → Val → Val → Out Val
joined_strings limit v w = bind (to_string limit v) (λ u. bind (to_string limit w) (concatenated limit u))

-- the primitive value of a value: an array or an object becomes its string (ECMA-262, "ToPrimitive")
abbrev pub primitive : ℕ → Val → Out Val
primitive limit (list us) = bind (to_string limit (list us)) (λ u. gave (text u) free)
primitive limit (object fs) = bind (to_string limit (object fs)) (λ u. gave (text u) free)
primitive limit v = gave v free

-- the sum of two primitive values, of which a string makes both strings
abbrev pub plus_primitives : ℕ → ℕ → Val → Val → Out Val
plus_primitives at limit v w = if is_text v || is_text w then joined_strings limit v w else sum_in at v w

-- arrays and objects become strings before anything else; what ends early has needed its conversions alone
abbrev pub plus : ℕ → ℕ → Val → Val → Out Val
plus at limit v w = bind (primitive limit v) (λ x. bind (primitive limit w) (plus_primitives at limit x))

-- unary minus, or else `!`
abbrev pub unary_out : Bool → ℕ → Val → Out Val
unary_out true at v = converts nothing (to_number at v) (λ n. needing nothing (number (negative n)))
unary_out false at v = needing nothing (bool (not (to_boolean v)))
