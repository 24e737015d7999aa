-- Helpers: no public contract reaches these definitions.
-- One element at a time: put in order, and shown as JSON text.
use Rattle.std.specs.Prelude.{ℕ, Bool, if◌then◌else◌, List, ◌∷◌, ◌++◌, Option, codes}
use Rattle.std.specs.Option.{option_map_or}
use Rattle.std.specs.Ordering.{nat_cmp}
use Rattle.std.specs.BTreeMap.{insert_entry}
use Rattle.js_json.specs.Quoting.{quoted}
use Rattle.js_object.specs.Keys.{index_of_key}

-- an element with an index goes to its place among those with one
abbrev pub index_entered : {X : Type 0} → Option ℕ → X → List (ℕ × X) → List (ℕ × X)
index_entered index x es = option_map_or (λ n. insert_entry nat_cmp es n x) index es

-- one without goes before the others
abbrev pub put_off : {X : Type 0} → Option ℕ → X → List X → List X
put_off index x xs = option_map_or (λ n. xs) index (x ∷ xs)

abbrev pub bool_json : Bool → List ℕ
bool_json b = if b then codes "true" else codes "false"

abbrev pub JsonMember : Type 0
JsonMember = List ℕ × Option (List ℕ)

abbrev pub part_index : JsonMember → Option ℕ
part_index p = index_of_key p.0

-- the quoted key, a colon and the value's JSON text
abbrev pub more_shown : List ℕ → Option (List ℕ) → List (List ℕ) → List (List ℕ)
more_shown key text us = option_map_or (λ u. (quoted key ++ 0x3A ∷ u) ∷ us) text us
