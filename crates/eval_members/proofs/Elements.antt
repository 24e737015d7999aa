-- The elements of an array joined.
use Rattle.eval_members.specs.Parts.{joined_with}
use Rattle.eval_values.specs.RowNames.{parts_words}
use Rattle.std.proofs.Common.{arith, ◌≡◌, ℕ, ◌+◌, ◌≤◌, List, [], ◌∷◌, length, subst, false, true, Result, Ok, Err}
use Rattle.js_store.specs.State.{State, Grows, text}
use Rattle.js_store.proofs.Laws.{settle_words_most}
use Rattle.js_texts.specs.Texts.{known_texts, AllKnown, settle_most}
use Rattle.js_texts.proofs.Lists.{texts_still}
use Rattle.js_texts.specs.Use.{settling}
use Rattle.js_item.specs.declared.item.Item.{Item}
use Rattle.eval_values.specs.declared.value.Stop.{Stop}
use Rattle.js_item.specs.Seen.{Val, seen}
use Rattle.js_item.specs.Fine.{IsFine}
use Rattle.eval_values.specs.Need.{parts}
use Rattle.eval_values.specs.Conversions.{to_string, list_units, all_units, first_text_units}
use Rattle.eval_values.specs.Arguments.{first_of, is_undefined}
use Rattle.eval_members.specs.Splitting.{join_call}
use Rattle.eval_values.specs.Does.{GivesValue, GivesText}
use Rattle.eval_values.specs.Outcome.{free}
use Rattle.eval_values.proofs.Compose.{did_after, ran_free}
use Rattle.eval_values.proofs.TextArguments.{text_converts, text_fails}
use Rattle.eval_values.proofs.Needs.{some_most, settle_few}

module _ {F R : Type 0} (name : R → ℕ) where
  -- what settling the elements takes, and then the separator, of operands with t units
  pub join_fits : (a : State F) (rs : List R) (s t : ℕ) → list_units (known_texts a name rs) + length (text a s) ≤ t + 40 → settle_most a
      name rs + settling a s ≤ parts_words (length (known_texts a name rs)) t
  join_fits a rs s t k = omega (arith, k, some_most (length (known_texts a name rs)), settle_few a name rs, settle_words_most (a.settled s) (length (text a s)))

  pub commas_fit : (a : State F) (rs : List R) (t : ℕ) → list_units (known_texts a name rs) ≤ t → settle_most a name rs + 1 ≤ parts_words (length (known_texts a name rs)) t
  commas_fit a rs t k = omega (arith, k, some_most (length (known_texts a name rs)), settle_few a name rs)

  -- a separator that is given, as a string, and then the elements with it between two
  pub join_does : (a b c : State F) (rs : List R) (vs : List Val) (w : R) (r : Result (Item R) Stop) → Grows a b → AllKnown a name rs →
      is_undefined (first_of vs) ≡ false → length (text b (name w)) ≤ first_text_units vs + 40 → GivesText name a b (Ok w)
      (to_string a.limit (first_of vs)) → ((t : ℕ) → list_units (known_texts b name rs) + length (text b (name w)) ≤ t + 40 → GivesValue name
      b c r (joined_with b.limit t (known_texts b name rs) (text b (name w)))) → GivesValue name a c r (join_call a.limit (known_texts a name rs) vs)
  join_does a b c rs vs w r g k e l d f =
      let same : known_texts b name rs ≡ known_texts a name rs = texts_still name a b rs g k in
      let t : ℕ = list_units (known_texts a name rs) + first_text_units vs in
      let fits : list_units (known_texts b name rs) + length (text b (name w)) ≤ t + 40 = rw same (omega (arith, l)) in
      let first : GivesValue name b c r (joined_with b.limit t (known_texts b name rs) (text b (name w))) = f t fits in
      let second : GivesValue name b c r (joined_with a.limit t (known_texts b name rs) (text b (name w))) = subst
      (λ (q : ℕ). GivesValue name b c r (joined_with q t (known_texts b name rs) (text b (name w)))) g.limit first in
      let third : GivesValue name b c r (joined_with a.limit t (known_texts a name rs) (text b (name w))) = subst
      (λ (q : List (List ℕ)). GivesValue name b c r (joined_with a.limit t q (text b (name w)))) same second in
      rw e (text_converts name (parts (length (known_texts a name rs)) (list_units (known_texts a name rs) + all_units vs)) a b c w r
      (to_string a.limit (first_of vs)) (λ u. joined_with a.limit t (known_texts a name rs) u) d third)

  -- a separator that is given and doesn't become a string
  pub join_fails : (a b : State F) (rs : List R) (vs : List Val) (n : Stop) → is_undefined (first_of vs) ≡ false
      → GivesText name a b (Err n) (to_string a.limit (first_of vs)) → GivesValue name a b (Err n) (join_call a.limit (known_texts a name rs) vs)
  join_fails a b rs vs n e d =
      let us = known_texts a name rs in
      let t : ℕ = list_units us + first_text_units vs in
      rw e (text_fails name (parts (length us) (list_units us + all_units vs)) a b n (to_string a.limit (first_of vs)) (λ u. joined_with a.limit t us u) d)

  -- none is given, and the elements are joined with commas
  pub commas_do : (a c : State F) (rs : List R) (vs : List Val) (r : Result (Item R) Stop) → is_undefined (first_of vs) ≡ true
      → ((t : ℕ) → list_units (known_texts a name rs) ≤ t → GivesValue name a c r (joined_with a.limit t (known_texts a name rs) (44 ∷ [])))
      → GivesValue name a c r (join_call a.limit (known_texts a name rs) vs)
  commas_do a c rs vs r e f =
      let us = known_texts a name rs in
      let t : ℕ = list_units us + first_text_units vs in
      rw e (did_after a a c (λ s v. seen s name v) (λ s v. IsFine s name v) free r (joined_with a.limit t us (44 ∷ [])) (ran_free a) (f t (omega arith)))
