-- What the order of keys means for the keys of an object, and for its JSON text.
use Rattle.std.specs.Prelude.{List, ℕ, Option, map, bytes_eq}
use Rattle.std.specs.List.{IsDistinct}
use Rattle.js_item.specs.Contents.{Fields}
use Rattle.js_object.specs.Keys.{index_of_key, ordered, key_values, keys_of, unit_keys}
use Rattle.js_object.specs.Order.{IsTheOrder}

-- the keys of the members, as they are
abbrev pub standing_keys : Fields (List ℕ) → List (List ℕ)
standing_keys fs = keys_of (key_values fs)

-- an object's keys are in the one order that they have
abbrev pub KeysInOrder : Type 0
KeysInOrder =
    (fs : Fields (List ℕ)) → IsDistinct bytes_eq (standing_keys fs)
    → IsTheOrder index_of_key (standing_keys fs) (unit_keys fs)

-- the keys of the parts of a JSON text, as they are
abbrev pub part_keys : List (List ℕ × Option (List ℕ)) → List (List ℕ)
part_keys ps = map (λ p. p.0) ps

-- so do the parts of its JSON text
abbrev pub PartsInOrder : Type 0
PartsInOrder =
    (ps : List (List ℕ × Option (List ℕ))) → IsDistinct bytes_eq (part_keys ps)
    → IsTheOrder (λ p. index_of_key p.0) ps (ordered (λ p. index_of_key p.0) ps)
