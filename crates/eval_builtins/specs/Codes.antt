-- Strings of numbers: `String.fromCharCode` and `String.fromCodePoint` (ECMA-262,
-- "Properties of the String Constructor").
use Rattle.std.specs.Prelude.{ℕ, ◌+◌, List, length, nat_le, if◌then◌else◌}
use Rattle.js_number.specs.declared.Num.{Num}
use Rattle.js_methods.specs.Building.{is_code_point}
use Rattle.eval_values.specs.declared.value.Kind.TheVariants.{RangeError}
use Rattle.js_item.specs.Seen.{Val}
use Rattle.js_item.specs.Contents.{text}
use Rattle.eval_values.specs.Outcome.{Out, gave, bind, each, free, needing, throwing, converts}
use Rattle.eval_values.specs.Need.{Row, parts}
use Rattle.eval_values.specs.Conversions.{to_number, all_units}

-- what a call of `String.fromCharCode` or `String.fromCodePoint` with these arguments needs,
-- where its result has n units
abbrev pub from_row : List Val → ℕ → Row
from_row vs n = parts (length vs) (all_units vs + n)

-- a number that has to be a code point
abbrev pub point_out : List Val → Num → Out Num
point_out vs n = if is_code_point n then gave n free else throwing (from_row vs 0) RangeError

-- a call of such a function: each argument in turn as a number, and then the string of these; no source text
-- spells a call of more than 2^20 arguments
abbrev pub from_numbers : (Num → Out Num) → (List Num → List ℕ) → ℕ → List Val → Out Val
from_numbers taken units at vs = if nat_le (length vs) 1048576
    then bind (each (λ v. converts (from_row vs 0) (to_number at v) taken) vs)
    (λ ns. needing (from_row vs (length (units ns))) (text (units ns)))
    else throwing (from_row vs 0) RangeError
