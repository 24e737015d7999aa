-- Elements of values.
use Rattle.std.specs.Prelude.{ℕ, List, length, Option, None, slice_get, pos}
use Rattle.js_number.specs.declared.Num.{Num}
use Rattle.js_number.specs.declared.Num.TheVariants.{Int}
use Rattle.js_methods.specs.Places.{at_of}
use Rattle.eval_values.specs.declared.value.Kind.TheVariants.{TypeError}
use Rattle.js_item.specs.Seen.{Val}
use Rattle.js_item.specs.Contents.{undefined, null, number, text, list, object}
use Rattle.eval_values.specs.Outcome.{Out, throwing, refuses}
use Rattle.eval_values.specs.Need.{reads}
use Rattle.eval_values.specs.Conversions.{string_units}
use Rattle.eval_members.specs.Places.{maybe_text, element}
use Rattle.eval_members.specs.Properties.{indexed_object}

-- the one unit at an index, and the element at an index, counted from 0 (ECMA-262, "StringGetOwnProperty")
abbrev pub unit_at : List ℕ → Num → Option (List ℕ)
unit_at u (Int (pos k)) = at_of u (Int (pos k))
unit_at u _ = None

abbrev pub element_at : List (List ℕ) → Num → Option (List ℕ)
element_at us (Int (pos k)) = slice_get us k
element_at us _ = None

-- ECMA-262, "Property Accessors", by an index that was evaluated. An array counts with no units where it is
-- the receiver; of values other than objects an index that is no number is left out of the profile.
abbrev pub indexed : ℕ → ℕ → Val → Val → Out Val
indexed at limit undefined i = throwing (reads (string_units i)) TypeError
indexed at limit null i = throwing (reads (string_units i)) TypeError
indexed at limit (object fs) i = indexed_object at limit fs i
indexed at limit (text u) (number n) = element (length u) (maybe_text (unit_at u n))
indexed at limit (list us) (number n) = element 0 (maybe_text (element_at us n))
indexed at limit _ (number n) = element 0 undefined
indexed at limit _ _ = refuses at
