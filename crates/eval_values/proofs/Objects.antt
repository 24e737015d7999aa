-- Objects as strings and as numbers, by whether they have an own property `toString`.
use Rattle.std.proofs.Common.{arith, ◌≡◌, ◌∙◌, ℕ, Bool, true, false, Some, None, Result, Err, refl, ap}
use Rattle.std.specs.Prelude.{is_some, bytes_eq, codes, List, Option, if◌then◌else◌}
use Rattle.js_store.specs.State.{State}
use Rattle.js_store.specs.Faults.{StoreStep}
use Rattle.js_item.specs.Contents.{Content, Fields, no_fields, field}
use Rattle.js_item.specs.Puts.{one_on, place_by, value_by, has_units}
use Rattle.js_item.specs.Seen.{says, fields_mapped}
use Rattle.js_item.proofs.Values.{mapped_place}
use Rattle.eval_values.specs.declared.value.Kind.TheVariants.{TypeError}
use Rattle.eval_values.specs.declared.value.Stop.{Stop}
use Rattle.eval_values.specs.declared.value.Stop.TheVariants.{Threw}
use Rattle.js_store.specs.State.{IsKnown, text}
use Rattle.eval_values.specs.Outcome.{ended, threw, free}
use Rattle.eval_values.specs.Conversions.{own_to_string, spelled}
use Rattle.eval_values.specs.Does.{GivesText}
use Rattle.eval_values.proofs.Compose.{did_before, ran_of_step}

-- there is a place of a key exactly where there is a value
found_if : {R : Type 0} (b : Bool) (o : Option ℕ) (p : Option (Content R)) (v : Content R) → is_some o ≡ is_some p → is_some (if b then Some 0 else one_on o) ≡ is_some (if b then Some v else p)
found_if true o p v e = refl
found_if false None p v e = e
found_if false (Some n) p v e = e

found_value : {R : Type 0} (is : R → Bool) (fs : Fields R) → is_some (place_by is fs) ≡ is_some (value_by is fs)
found_value is no_fields = refl
found_value is (field k v rest) = found_if (is k) (place_by is rest) (value_by is rest) v (found_value is rest)

-- the keys of the members, told by their references
pub own_by_keys : {F R : Type 0} (s : State F) (name : R → ℕ) (fs : Fields R) → is_some (place_by (has_units s name (codes "toString")) fs) ≡ own_to_string (fields_mapped (says s name) fs)
own_by_keys s name fs =
    ap is_some (mapped_place (says s name) (λ k. bytes_eq k (codes "toString")) fs) ∙ found_value (λ k. bytes_eq k (codes "toString")) (fields_mapped (says s name) fs)

-- the keys were read, and then there is an error or a new string
module _ {F R : Type 0} (name : R → ℕ) (a b : State F) (fs : Fields (List ℕ)) (s : StoreStep a b None 0 0) (h : b.history ≡ a.history) where
  pub string_throws : own_to_string fs ≡ true → GivesText name a b (Err (Threw TypeError)) (if own_to_string fs then ended (threw TypeError) free else spelled (codes "[object Object]"))
  string_throws e = rw e (refl, ran_of_step 0 0 s h (omega arith) (omega arith))

  pub string_made : (c : State F) (r : Result R Stop) → own_to_string fs ≡ false → GivesText name b c r (spelled (codes "[object Object]"))
      → GivesText name a c r (if own_to_string fs then ended (threw TypeError) free else spelled (codes "[object Object]"))
  string_made c r e d = rw e (did_before a b c (λ q v. text q (name v)) (λ q v. IsKnown q (name v)) r (spelled (codes "[object Object]")) s h d)
