-- Values as JSON text.
use Rattle.std.specs.Prelude.{ℕ, suc, ◌+◌, List, length}
use Rattle.js_number.specs.declared.Num.{Num}
use Rattle.js_number.specs.declared.Num.TheVariants.{Int}
use Rattle.js_json.specs.Quoting.{quoted, list_text}
use Rattle.js_object.specs.Json.{json_of}
use Rattle.js_item.specs.Seen.{Val}
use Rattle.js_item.specs.Contents.{Fields, no_fields, field, undefined, null, bool, number, text, list}
use Rattle.js_item.specs.Contents.{object}
use Rattle.eval_values.specs.Outcome.{Out, bind, needing}
use Rattle.eval_values.specs.Need.{nothing, reads, parts}
use Rattle.eval_values.specs.Conversions.{to_string, list_units}
use Rattle.eval_values.specs.Limited.{bounded, limited}

-- a number that is not whole is null
abbrev pub whole_or_null : Num → Val
whole_or_null (Int z) = number (Int z)
whole_or_null n = null

-- the string of a value as ToString has it
abbrev pub as_text : ℕ → Val → Out Val
as_text limit v = bind (to_string limit v) (λ u. needing nothing (text u))

-- the units of the keys and of all strings of an object, at every level,
-- and how many members it has and elements its arrays
abbrev mutual
  pub quoted_units : Val → ℕ
  quoted_units (text u) = length u
  quoted_units (list us) = list_units us
  quoted_units (object fs) = field_units fs
  quoted_units _ = 0

  pub field_units : Fields (List ℕ) → ℕ
  field_units no_fields = 0
  field_units (field key value rest) = length key + quoted_units value + field_units rest

abbrev mutual
  pub parts_in : Val → ℕ
  parts_in (list us) = length us
  parts_in (object fs) = field_parts fs
  parts_in _ = 0

  pub field_parts : Fields (List ℕ) → ℕ
  field_parts no_fields = 0
  field_parts (field key value rest) = suc (parts_in value + field_parts rest)

-- "JSON.stringify" of one value, without more arguments ("SerializeJSONProperty"); undefined and a symbol
-- give undefined
abbrev pub stringify_call : ℕ → Val → Out Val
stringify_call limit null = as_text limit null
stringify_call limit (bool b) = as_text limit (bool b)
stringify_call limit (number n) = as_text limit (whole_or_null n)
stringify_call limit (text u) = limited limit (length u) (quoted u)
stringify_call limit (list us) = bounded limit (λ n. parts (length us) (list_units us + n)) (list_text us)
stringify_call limit (object fs) =
    bounded limit (λ n. parts (field_parts fs) (field_units fs + n)) (json_of (λ u. u) fs)
stringify_call limit _ = needing (reads 0) undefined
