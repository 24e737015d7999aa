-- Comparisons: of two strings that were settled, of two keys, and of any two values.
use Rattle.eval_values.specs.RowNames.{row_ids, row_words}
use Rattle.std.proofs.Common.{arith, ◌≡◌, ℕ, ◌+◌, List, length, refl, sym, ◌∙◌, ap, subst, Bool, true, false, Some, None, Result, Ok, Err}
use Rattle.std.specs.Prelude.{Option, IsTrue, ◌↔◌, bytes_eq}
use Rattle.std.specs.declared.cmp.Ordering.{Ordering}
use Rattle.std.proofs.lemmas.Slice.Eq.{bytes_eq-Decides}
use Rattle.js_search.specs.Order.{units_cmp}
use Rattle.js_store.specs.State.{State, Grows, IsKnown, text}
use Rattle.js_store.specs.Rows.{wide_words}
use Rattle.js_store.specs.Faults.{StoreStep, NeverSlots}
use Rattle.js_store.specs.declared.faults.StoreFault.{StoreFault}
use Rattle.js_store.proofs.Laws.{text_still, step_refl, step_after}
use Rattle.js_item.specs.declared.item.Item.{Item}
use Rattle.eval_values.specs.declared.value.Stop.{Stop}
use Rattle.eval_values.specs.declared.value.Stop.TheVariants.{Store}
use Rattle.js_item.specs.Seen.{Val, seen}
use Rattle.eval_values.specs.Outcome.{gave, free, cost, bind}
use Rattle.eval_values.specs.Need.{reads}
use Rattle.eval_values.specs.Operators.{primitive}
use Rattle.eval_values.specs.Comparing.{compared, order_primitives, order_out}
use Rattle.js_item.specs.Fine.{IsFine}
use Rattle.eval_values.specs.Does.{GivesValue, GivesPlain}
use Rattle.eval_values.proofs.Compose.{did_bind, did_stop, cut_of_step, ran_of_step}
use Rattle.eval_values.proofs.Still.{seen_still}
use Rattle.eval_values.proofs.Sums.{meant}

-- a test that holds exactly where two lists are the same
false_unless : (b : Bool) → (b ≡ true → ⊥) → false ≡ b
false_unless true h = absurd (h refl)
false_unless false h = refl

same_is : (r : Bool) (u w : List ℕ) → (IsTrue r ↔ (u ≡ w)) → r ≡ bytes_eq u w
same_is true u w h = sym ((bytes_eq-Decides u w).1 (h.0 refl))
same_is false u w h = false_unless (bytes_eq u w) (λ e. (let t : false ≡ true = h.1 ((bytes_eq-Decides u w).0 e) in cc))

-- two keys of symbols
pub keys_same : {F : Type 0} (a b : State F) (k l : List ℕ) (r : Bool) → StoreStep a b None 0 0 → b.history ≡ a.history → (IsTrue r ↔ (k ≡ l)) → GivesPlain a b (Ok r) (gave (bytes_eq k l) free)
keys_same a b k l r s h e = record { is = same_is r k l e; good = tt; ran = ran_of_step 0 0 s h (omega arith) (omega arith) }

-- two strings of which one could not be settled
pub compared_cut : {F A : Type 0} (a b : State F) (x : A) (u w : List ℕ) (f : StoreFault) → StoreStep a b (Some f) 0
    (wide_words (length u) + wide_words (length w)) → b.history ≡ a.history → NeverSlots (Some f) → GivesPlain a b (Err (Store f)) (compared x u w)
compared_cut a b x u w f s h n = cut_of_step (cost (reads (length u + length w))) s h n (omega arith) (omega arith)

compared_given : {F A : Type 0} (a b : State F) (x y : A) (u w : List ℕ) → y ≡ x → StoreStep a b None 0
    (wide_words (length u) + wide_words (length w)) → b.history ≡ a.history → GivesPlain a b (Ok y) (compared x u w)
compared_given a b x y u w e s h = record { is = e; good = tt; ran = ran_of_step row_ids (row_words (length u + length w)) s h (omega arith) (omega arith) }

-- two strings that were settled, and then compared
module _ {F : Type 0} (a b c : State F) (m n : ℕ) (k : IsKnown a m) (l : IsKnown a n) (s : StoreStep a b None 0
    (wide_words (length (text a m)) + wide_words (length (text a n)))) (h : b.history ≡ a.history) (t : StoreStep b c None 0 0) (i : c.history ≡ b.history) where
  told : {A : Type 0} (x y : A) → y ≡ x → GivesPlain a c (Ok y) (compared x (text a m) (text a n))
  told x y e = compared_given a c x y (text a m) (text a n) e (step_after s t (omega arith) (omega arith)) (i ∙ h)

  pub texts_same : (r : Bool) → (IsTrue r ↔ (text b m ≡ text b n)) → GivesPlain a c (Ok r) (compared (bytes_eq (text a m) (text a n)) (text a m) (text a n))
  texts_same r e = told (bytes_eq (text a m) (text a n)) r (same_is r (text b m) (text b n) e ∙ cc (text_still s.grows m k, text_still s.grows n l))

  pub texts_order : (r : Ordering) → r ≡ units_cmp (text b m) (text b n) → GivesPlain a c (Ok (Some r)) (compared (Some (units_cmp (text a m) (text a n))) (text a m) (text a n))
  texts_order r e = told (Some (units_cmp (text a m) (text a n))) (Some r) (ap Some (e ∙ cc (text_still s.grows m k, text_still s.grows n l)))

-- two references that name one string
pub one_same : {F : Type 0} (a : State F) (m n : ℕ) → m ≡ n → GivesPlain a a (Ok true) (compared (bytes_eq (text a m) (text a n)) (text a m) (text a n))
one_same a m n e = compared_given a a (bytes_eq (text a m) (text a n)) true (text a m) (text a n)
    (sym ((bytes_eq-Decides (text a m) (text a n)).1 (ap (text a) e))) (step_after (step_refl a) (step_refl a) (omega arith) (omega arith)) refl

-- both sides as primitive values, and then their order
module _ {F R : Type 0} (name : R → ℕ) (a b : State F) (at : ℕ) (v w : Item R) where
  pub order_does : (c d : State F) (x y : Item R) (r : Result (Option Ordering) Stop) → Grows a b → Grows b c → IsFine a name w → IsFine b
      name x → GivesValue name a b (Ok x) (primitive a.limit (seen a name v)) → GivesValue name b c (Ok y) (primitive b.limit (seen b name w))
      → GivesPlain c d r (order_primitives at (seen c name x) (seen c name y)) → GivesPlain a d r (order_out at a.limit (seen a name v) (seen a name w))
  order_does c d x y r g h f k e e' z =
      let last : GivesPlain c d r (order_primitives at (seen b name x) (seen c name y)) = subst (λ (q : Val). GivesPlain c d r (order_primitives at q (seen c name y))) (seen_still b c name h x k) z in
      did_bind a b d (λ s q. seen s name q) (λ s q. IsFine s name q) (λ s q. q) (λ s q. Unit {0}) x r (primitive a.limit (seen a name v))
      (λ p. bind (primitive a.limit (seen a name w)) (λ q. order_primitives at p q)) e
      (did_bind b c d (λ s q. seen s name q) (λ s q. IsFine s name q) (λ s q. q) (λ s q. Unit {0}) y r (primitive a.limit (seen a name w))
      (λ q. order_primitives at (seen b name x) q) (meant name a b c w (Ok y) g f e') last)

  pub first_ends : (n : Stop) → GivesValue name a b (Err n) (primitive a.limit (seen a name v)) → GivesPlain {A = Option Ordering} a b (Err n) (order_out at a.limit (seen a name v) (seen a name w))
  first_ends n e = did_stop a b (λ s q. seen s name q) (λ s q. IsFine s name q) (λ s q. q) (λ s q. Unit {0}) n
      (primitive a.limit (seen a name v)) (λ p. bind (primitive a.limit (seen a name w)) (λ q. order_primitives at p q)) e

  pub second_ends : (c : State F) (x : Item R) (n : Stop) → Grows a b → IsFine a name w → GivesValue name a b (Ok x)
      (primitive a.limit (seen a name v)) → GivesValue name b c (Err n) (primitive b.limit (seen b name w)) → GivesPlain {A = Option Ordering}
      a c (Err n) (order_out at a.limit (seen a name v) (seen a name w))
  second_ends c x n g f e e' =
      did_bind a b c (λ s q. seen s name q) (λ s q. IsFine s name q) (λ s q. q) (λ s q. Unit {0}) x (Err n)
      (primitive a.limit (seen a name v)) (λ p. bind (primitive a.limit (seen a name w)) (λ q. order_primitives at p q)) e
      (did_stop b c (λ s q. seen s name q) (λ s q. IsFine s name q) (λ s q. q) (λ s q. Unit {0}) n (primitive a.limit (seen a name w))
      (λ q. order_primitives at (seen b name x) q) (meant name a b c w (Err n) g f e'))
