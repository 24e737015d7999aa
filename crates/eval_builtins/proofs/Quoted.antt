-- How long a string is as JSON text, and values that are their own text.
use Rattle.eval_values.specs.Within.{gives}
use Rattle.std.proofs.Common.{arith, ℕ, ◌+◌, ◌*◌, ◌≤◌, List, [], ◌∷◌, length, length-append, refl, Bool, true, false, nat_lt, if◌then◌else◌, Option, Some, None, Ok, Err}
use Rattle.std.specs.Prelude.{◌&&◌}
use Rattle.std.specs.List.{flat_map}
use Rattle.js_units.specs.Text.{is_lead, is_trail, pair_value, points, utf16_of}
use Rattle.js_json.specs.Quoting.{unicode_escape, escaped, letter_of, quoted, list_rest, list_text}
use Rattle.js_json.specs.Bodies.{is_escaped, quoted_point, body}
use Rattle.js_store.specs.State.{State, IsKnown, text}
use Rattle.js_store.proofs.Laws.{known_has, step_refl}
use Rattle.js_item.specs.declared.item.Item.{Item}
use Rattle.js_item.specs.declared.item.Item.TheVariants.{Text}
use Rattle.eval_values.specs.declared.value.Stop.{Stop}
use Rattle.js_item.specs.Contents.{text as text_value}
use Rattle.eval_values.specs.Conversions.{to_string, list_units}
use Rattle.eval_builtins.specs.Quoting.{as_text}
use Rattle.js_item.specs.Seen.{seen}
use Rattle.eval_values.specs.Does.{GivesValue, GivesText}
use Rattle.eval_values.proofs.Compose.{ran_of_text}
use Rattle.eval_values.proofs.TextArguments.{text_then, text_stops}

either : (b : Bool) (x y : List ℕ) (n : ℕ) → length x ≤ n → length y ≤ n → length (if b then x else y) ≤ n
either true x y n h k = h
either false x y n h k = k

utf16_most : (c : ℕ) → length (utf16_of c) ≤ 6
utf16_most c = either (nat_lt c 0x10000) _ _ 6 (omega arith) (omega arith)

escaped_most : (o : Option ℕ) (c : ℕ) → length (escaped o c) ≤ 6
escaped_most (Some letter) c = omega arith
escaped_most None c = either (is_escaped c) (unicode_escape c) (utf16_of c) 6 (omega arith) (utf16_most c)

all_most : (ps : List ℕ) → length (flat_map quoted_point ps) ≤ 6 * length ps
all_most [] = omega arith
all_most (c ∷ ps) = omega (arith, length-append (quoted_point c) (flat_map quoted_point ps), escaped_most (letter_of c) c, all_most ps)

points_most : (us : List ℕ) → length (points us) ≤ length us
points_most [] = omega arith
points_most (u ∷ []) = omega arith
points_most (u ∷ v ∷ us) = either (is_lead u && is_trail v) (pair_value u v ∷ points us) (u ∷ points (v ∷ us)) (length (u ∷ v ∷ us))
    (omega (arith, points_most us)) (omega (arith, points_most (v ∷ us)))

-- a unit has six at most, beside the two quotes
pub quoted_most : (us : List ℕ) → length (quoted us) ≤ 2 + 6 * length us
quoted_most us = omega (arith, length-append (body us) (0x22 ∷ []), all_most (points us), points_most us)

-- an array of strings, as JSON text
rest_most : (us : List (List ℕ)) → length (list_rest us) ≤ 1 + 3 * length us + 6 * list_units us
rest_most [] = omega arith
rest_most (u ∷ us) = omega (arith, length-append (quoted u) (list_rest us), quoted_most u, rest_most us)

pub list_most : (us : List (List ℕ)) → length (list_text us) ≤ 2 + 3 * length us + 6 * list_units us
list_most [] = omega arith
list_most (u ∷ us) = omega (arith, length-append (quoted u) (list_rest us), quoted_most u, rest_most us)

module _ {F R : Type 0} (name : R → ℕ) (a b : State F) (v : Item R) where
  pub own_text : (r : R) → IsKnown b (name r) → GivesText name a b (Ok r) (to_string a.limit (seen a name v)) → GivesValue name a b (Ok (Text r)) (as_text a.limit (seen a name v))
  own_text r k d =
      text_then name a b b r (Ok (Text r)) (to_string a.limit (seen a name v)) (λ u. gives (text_value u) 0 0) d
      (record { is = refl; good = k; ran = ran_of_text 0 0 (text b (name r)) (name r) (known_has b (name r) k) (step_refl b) refl (omega arith) (omega arith) })

  pub no_text : (n : Stop) → GivesText name a b (Err n) (to_string a.limit (seen a name v)) → GivesValue name a b (Err n) (as_text a.limit (seen a name v))
  no_text n d = text_stops name a b n (to_string a.limit (seen a name v)) (λ u. gives (text_value u) 0 0) d
