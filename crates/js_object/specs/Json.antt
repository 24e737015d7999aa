-- Items and objects as JSON text (ECMA-262, "SerializeJSONProperty", "SerializeJSONObject").
use Rattle.std.specs.Prelude.{ℕ, Bool, true, false, ◌==◌, if◌then◌else◌, List, [], ◌∷◌, ◌++◌, map, Option}
use Rattle.std.specs.Prelude.{Some, None, codes}
use Rattle.std.specs.Option.{option_map_or}
use Rattle.std.specs.Fmt.{signed_decimal}
use Rattle.js_number.specs.declared.Num.{Num}
use Rattle.js_number.specs.declared.Num.TheVariants.{Int}
use Rattle.js_texts.specs.Delimited.{delimited}
use Rattle.js_json.specs.Quoting.{quoted, list_text}
use Rattle.js_item.specs.Contents.{Content, undefined, null, bool, number, text, symbol, list, object}
use Rattle.js_item.specs.Contents.{Fields, no_fields, field}
use Rattle.js_object.specs.Keys.{index_of_key, ordered}

-- the digits of a whole number, and null for each other one
abbrev pub number_json : Num → List ℕ
number_json (Int z) = signed_decimal z
number_json _ = codes "null"

-- undefined and symbols are left out
abbrev pub is_shown : {R : Type 0} → Content R → Bool
is_shown undefined = false
is_shown (symbol r) = false
is_shown _ = true

-- A member gives the units of its key, and the JSON text of its value, where it has one.

-- of each that has one, the quoted key, a colon and the value's JSON text
abbrev pub shown : List (List ℕ × Option (List ℕ)) → List (List ℕ)
shown [] = []
shown (p ∷ ps) = option_map_or (λ u. (quoted p.0 ++ 0x3A ∷ u) ∷ shown ps) p.1 (shown ps)

-- braces around the members in their order, with a comma between two
abbrev pub object_json : List (List ℕ × Option (List ℕ)) → List ℕ
object_json ps = 0x7B ∷ delimited (λ u. u) 0x2C 0x7D (shown (ordered (λ p. index_of_key p.0) ps))

abbrev mutual
  -- the JSON text of an item that is shown, where the units of references are known
  pub text_json : {R : Type 0} → (R → List ℕ) → Content R → List ℕ
  text_json say undefined = []
  text_json say null = codes "null"
  text_json say (bool b) = if b then codes "true" else codes "false"
  text_json say (number n) = number_json n
  text_json say (text r) = quoted (say r)
  text_json say (symbol r) = []
  text_json say (list rs) = list_text (map say rs)
  text_json say (object fs) = object_json (json_members say fs)

  -- one part for each member, in the order of the members
  pub json_members : {R : Type 0} → (R → List ℕ) → Fields R → List (List ℕ × Option (List ℕ))
  json_members say no_fields = []
  json_members say (field key value rest) =
      (say key, if is_shown value then Some (text_json say value) else None) ∷ json_members say rest

-- the JSON text of an object
abbrev pub json_of : {R : Type 0} → (R → List ℕ) → Fields R → List ℕ
json_of say fs = object_json (json_members say fs)

-- JSON texts with a unit before each, a brace or else a comma, and the last brace
abbrev pub closed : ℕ → List ℕ
closed sep = if sep == 0x7B then 0x7B ∷ 0x7D ∷ [] else 0x7D ∷ []

abbrev pub braced : ℕ → List (List ℕ) → List ℕ
braced sep [] = closed sep
braced sep (u ∷ us) = sep ∷ u ++ braced 0x2C us
