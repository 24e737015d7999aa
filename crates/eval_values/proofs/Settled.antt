-- What ToString read stays settled, and what it gave was that of the value.
use Rattle.std.proofs.Common.{◌≡◌, ℕ, List, [], ◌∷◌, subst, true, Result, Ok, Err}
use Rattle.std.specs.Prelude.{OnOk}
use Rattle.js_store.specs.State.{State, Grows, IsSettled}
use Rattle.js_texts.proofs.Lists.{all_settled_still}
use Rattle.js_item.specs.declared.item.Item.{Item}
use Rattle.js_item.specs.declared.item.Item.TheVariants as item
use Rattle.eval_values.specs.Arguments.{first_of, second_of, is_undefined}
use Rattle.eval_values.specs.Seen.{all_seen, OwnText, TextSettled}
use Rattle.eval_values.specs.Settled.{IsTextOf, IsFirstText, IsSecondText, ElementsSettled, StringsSettled, OfFirst, OfSecond}

pub on_ok_always : {A E : Type 0} (r : Result A E) (P : Type 0) → P → OnOk r P
on_ok_always (Ok v) P p = p
on_ok_always (Err e) P p = tt

module _ {F R : Type 0} (name : R → ℕ) (a b : State F) (g : Grows a b) where
  pub elements_still : (v : Item R) → ElementsSettled a name v → ElementsSettled b name v
  elements_still item.Undefined h = tt
  elements_still item.Null h = tt
  elements_still (item.Bool x) h = tt
  elements_still (item.Number x) h = tt
  elements_still (item.Text r) h = tt
  elements_still (item.Symbol r) h = tt
  elements_still (item.List rs) h = all_settled_still name a b rs.items g h
  elements_still (item.Object fs) h = tt

  -- the elements that were joined, after what came next
  pub elements_read : (v : Item R) (n : ℕ) → IsTextOf a name v n → ElementsSettled b name v
  elements_read item.Undefined n h = tt
  elements_read item.Null n h = tt
  elements_read (item.Bool x) n h = tt
  elements_read (item.Number x) n h = tt
  elements_read (item.Text r) n h = tt
  elements_read (item.Symbol r) n h = tt
  elements_read (item.List rs) n h = all_settled_still name a b rs.items g h.0
  elements_read (item.Object fs) n h = tt

  -- the string of a value was settled afterwards
  pub strings_read : (v : Item R) (n : ℕ) → IsTextOf a name v n → IsSettled b n → StringsSettled b name v
  strings_read item.Undefined n h k = tt
  strings_read item.Null n h k = tt
  strings_read (item.Bool x) n h k = tt
  strings_read (item.Number x) n h k = tt
  strings_read (item.Text r) n h k = subst (λ m. IsSettled b m) h k
  strings_read (item.Symbol r) n h k = tt
  strings_read (item.List rs) n h k = all_settled_still name a b rs.items g h.0
  strings_read (item.Object fs) n h k = tt

  pub first_read : (vs : List (Item R)) (n : ℕ) → IsFirstText a name vs n → IsSettled b n → OfFirst (λ v. StringsSettled b name v) vs
  first_read [] n h k = tt
  first_read (v ∷ vs) n h k = strings_read v n h k

  pub second_read : (vs : List (Item R)) (n : ℕ) → IsSecondText a name vs n → IsSettled b n → OfSecond (λ v. StringsSettled b name v) vs
  second_read [] n h k = tt
  second_read (v ∷ vs) n h k = first_read vs n h k

  first_elements : (vs : List (Item R)) (n : ℕ) → IsFirstText a name vs n → OfFirst (λ v. ElementsSettled b name v) vs
  first_elements [] n h = tt
  first_elements (v ∷ vs) n h = elements_read v n h

  pub second_elements : (vs : List (Item R)) (n : ℕ) → IsSecondText a name vs n → OfSecond (λ v. ElementsSettled b name v) vs
  second_elements [] n h = tt
  second_elements (v ∷ vs) n h = first_elements vs n h

  -- the primitive value of a value was settled afterwards
  pub primitive_read : (v w : Item R) → OwnText v w → ElementsSettled a name v → TextSettled b name w → StringsSettled b name v
  primitive_read item.Undefined w e h k = tt
  primitive_read item.Null w e h k = tt
  primitive_read (item.Bool x) w e h k = tt
  primitive_read (item.Number x) w e h k = tt
  primitive_read (item.Text r) w e h k = subst (λ z. TextSettled b name z) e k
  primitive_read (item.Symbol r) w e h k = tt
  primitive_read (item.List rs) w e h k = all_settled_still name a b rs.items g h
  primitive_read (item.Object fs) w e h k = tt

-- a missing argument is no string
module _ {F R : Type 0} (a b : State F) (name : R → ℕ) where
  pub missing_read : (vs : List (Item R)) → is_undefined (first_of (all_seen a name vs)) ≡ true → OfFirst (λ v. StringsSettled b name v) vs
  missing_read [] e = tt
  missing_read (item.Undefined ∷ vs) e = tt
  missing_read (item.Null ∷ vs) e = tt
  missing_read (item.Bool x ∷ vs) e = tt
  missing_read (item.Number x ∷ vs) e = tt
  missing_read (item.Text r ∷ vs) e = cc
  missing_read (item.Symbol r ∷ vs) e = tt
  missing_read (item.List rs ∷ vs) e = cc
  missing_read (item.Object fs ∷ vs) e = tt

  pub second_missing_read : (vs : List (Item R)) → is_undefined (second_of (all_seen a name vs)) ≡ true → OfSecond (λ v. StringsSettled b name v) vs
  second_missing_read [] e = tt
  second_missing_read (v ∷ vs) e = missing_read vs e

  missing_elements : (vs : List (Item R)) → is_undefined (first_of (all_seen a name vs)) ≡ true → OfFirst (λ v. ElementsSettled b name v) vs
  missing_elements [] e = tt
  missing_elements (item.Undefined ∷ vs) e = tt
  missing_elements (item.Null ∷ vs) e = tt
  missing_elements (item.Bool x ∷ vs) e = tt
  missing_elements (item.Number x ∷ vs) e = tt
  missing_elements (item.Text r ∷ vs) e = tt
  missing_elements (item.Symbol r ∷ vs) e = tt
  missing_elements (item.List rs ∷ vs) e = cc
  missing_elements (item.Object fs ∷ vs) e = tt

  pub second_missing_elements : (vs : List (Item R)) → is_undefined (second_of (all_seen a name vs)) ≡ true → OfSecond (λ v. ElementsSettled b name v) vs
  second_missing_elements [] e = tt
  second_missing_elements (v ∷ vs) e = missing_elements vs e
