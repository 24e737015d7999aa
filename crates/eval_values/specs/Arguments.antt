-- The arguments of a call, and their conversions.
use Rattle.std.specs.Prelude.{ℕ, List, [], ◌∷◌, Option, Some, None, Bool, true, false, drop}
use Rattle.js_number.specs.declared.Num.{Num}
use Rattle.js_item.specs.Seen.{Val}
use Rattle.js_item.specs.Contents.{undefined}
use Rattle.eval_values.specs.Outcome.{Converted, into, fails}
use Rattle.eval_values.specs.Conversions.{to_number, text_units}

-- the argument at a place; a missing one is undefined
abbrev pub first_of : List Val → Val
first_of [] = undefined
first_of (v ∷ vs) = v

abbrev pub second_of : List Val → Val
second_of vs = first_of (drop 1 vs)

abbrev pub is_undefined : Val → Bool
is_undefined undefined = true
is_undefined v = false

-- the units of the second argument, where it was converted by ToString
abbrev pub second_units : List Val → ℕ
second_units vs = text_units (second_of vs)

abbrev pub some_number : Converted Num → Converted (Option Num)
some_number (into n) = into (Some n)
some_number (fails e) = fails e

-- a number, where undefined is none: an end or a count that isn't given
abbrev pub end_in : ℕ → Val → Converted (Option Num)
end_in at undefined = into None
end_in at v = some_number (to_number at v)
