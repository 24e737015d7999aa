-- Which fillers of pads are settled.
use Rattle.std.proofs.Common.{arith, ◌≡◌, ℕ, zero, suc, ◌+◌, List, [], ◌∷◌, length, sym, subst, Bool, true, false, nat_le, Result, Ok, Err}
use Rattle.std.specs.Prelude.{OnOk, if◌then◌else◌}
use Rattle.std.proofs.lemmas.Result.{on_ok_weaker}
use Rattle.js_store.specs.State.{State, Grows, IsSettled, text}
use Rattle.js_texts.specs.Texts.{known_texts}
use Rattle.js_methods.specs.Building.{CutsFiller}
use Rattle.js_item.specs.declared.item.Item.{Item}
use Rattle.js_item.specs.declared.item.Item.TheVariants as item
use Rattle.eval_values.specs.declared.value.Kind.TheVariants.{RangeError}
use Rattle.eval_values.specs.Outcome.{gave, cost, throwing}
use Rattle.eval_values.specs.Need.{parts}
use Rattle.eval_values.specs.Conversions.{to_string, text_units, list_units, comma_joined}
use Rattle.eval_values.specs.Arguments.{first_of, second_of, second_units, is_undefined}
use Rattle.eval_values.specs.Seen.{all_seen}
use Rattle.eval_values.specs.Does.{GivesText}
use Rattle.eval_values.specs.Settled.{IsTextOf, IsSecondText, StringsSettled, OfSecond}
use Rattle.eval_values.proofs.Settled.{on_ok_always, strings_read, second_elements, second_missing_read, second_missing_elements}
use Rattle.eval_members.specs.Methods.{FillerSettled}

-- nothing is missing
no_cut : (m : ℕ) → CutsFiller 0 m → ⊥
no_cut zero h = omega (arith, h.0)
no_cut (suc m) h = omega (arith, h.1)

pub none_missing : {F R : Type 0} (s : State F) (name : R → ℕ) (n m : ℕ) (vs : List (Item R)) → n ≡ 0 → FillerSettled s name n m vs
none_missing s name n m vs e = subst (λ k. FillerSettled s name k m vs) (sym e) ((λ h. absurd (omega (arith, h))), (λ h. absurd (no_cut m h)))

-- no filler is given
pub no_filler : {F R : Type 0} (a b : State F) (name : R → ℕ) (n m : ℕ) (vs : List (Item R)) → is_undefined (second_of (all_seen a name vs)) ≡ true → FillerSettled b name n m vs
no_filler a b name n m vs e = ((λ h. second_missing_elements a b name vs e), (λ h. second_missing_read a b name vs e))

on_ok_pair : {A E : Type 0} (r : Result A E) (P Q H K : Type 0) → (H → P) → (K → OnOk r Q) → OnOk r ((H → P) × (K → Q))
on_ok_pair (Ok v) P Q H K f h = (f, h)
on_ok_pair (Err e) P Q H K f h = tt

module _ {F R E A : Type 0} (name : R → ℕ) (a b c : State F) (g : Grows b c) (w : R) (n : ℕ) (r : Result A E) (cut : CutsFiller n (length (text b (name w))) → OnOk r (IsSettled c (name w))) where
  -- the string of an array, where it isn't too long
  joined_units : (fits : Bool) (us : List (List ℕ)) → GivesText name a b (Ok w)
      (if fits then gave (comma_joined us) (cost (parts (length us) (list_units us + length (comma_joined us)))) else throwing
      (parts (length us) (list_units us)) RangeError) → text b (name w) ≡ comma_joined us
  joined_units true us d = d.is
  joined_units false us d = absurd d

  of_units : (u : List ℕ) (v : Item R) → text b (name w) ≡ u → IsTextOf b name v (name w) → CutsFiller n (length u) → OnOk r (StringsSettled c name v)
  of_units u v e o h = on_ok_weaker r (λ k. strings_read name b c g v (name w) o k) (cut (subst (λ (z : List ℕ). CutsFiller n (length z)) (sym e) h))

  of_value : (v : Item R) → GivesText name a b (Ok w) (to_string a.limit (first_of (all_seen a name (v ∷ [])))) → IsTextOf b name v (name w)
      → CutsFiller n (text_units (first_of (all_seen a name (v ∷ [])))) → OnOk r (StringsSettled c name v)
  of_value item.Undefined d o h = on_ok_always r (Unit {0}) tt
  of_value item.Null d o h = on_ok_always r (Unit {0}) tt
  of_value (item.Bool x) d o h = on_ok_always r (Unit {0}) tt
  of_value (item.Number x) d o h = on_ok_always r (Unit {0}) tt
  of_value (item.Text q) d o h = of_units (text a (name q)) (item.Text q) d.is o h
  of_value (item.Symbol q) d o h = on_ok_always r (Unit {0}) tt
  of_value (item.List rs) d o h =
      let us = known_texts a name rs.items in
      of_units (comma_joined us) (item.List rs) (joined_units (nat_le (length (comma_joined us)) a.limit) us d) o h
  of_value (item.Object fs) d o h = on_ok_always r (Unit {0}) tt

  of_second : (vs : List (Item R)) → GivesText name a b (Ok w) (to_string a.limit (second_of (all_seen a name vs))) → IsSecondText b name vs
      (name w) → CutsFiller n (second_units (all_seen a name vs)) → OnOk r (OfSecond (λ v. StringsSettled c name v) vs)
  of_second [] d o h = on_ok_always r (Unit {0}) tt
  of_second (v ∷ []) d o h = on_ok_always r (Unit {0}) tt
  of_second (v ∷ x ∷ vs) d o h = of_value x d o h

  -- a filler that became the string w
  pub filler_read : (vs : List (Item R)) → GivesText name a b (Ok w) (to_string a.limit (second_of (all_seen a name vs))) → IsSecondText b
      name vs (name w) → OnOk r (FillerSettled c name n (second_units (all_seen a name vs)) vs)
  filler_read vs d o = on_ok_pair r _ _ _ _ (λ h. second_elements name b c g vs (name w) o) (λ h. of_second vs d o h)
