-- Sums: both sides as primitive values, and then what is done with them.
use Rattle.std.proofs.Common.{arith, ◌≡◌, ℕ, List, length, refl, subst, Result, Ok, Err, None}
use Rattle.js_store.specs.State.{State, Grows, IsKnown, text}
use Rattle.js_store.proofs.Laws.{grows_trans, step_refl, text_still}
use Rattle.js_item.specs.declared.item.Item.{Item}
use Rattle.js_item.specs.declared.item.Item.TheVariants.{Text}
use Rattle.eval_values.specs.declared.value.Stop.{Stop}
use Rattle.js_item.specs.Seen.{Val, seen}
use Rattle.eval_values.specs.Outcome.{Out, after_ledger, bind, cost, gave, free}
use Rattle.eval_values.specs.Need.{reads, ids_in, words_in}
use Rattle.js_store.specs.Faults.{StoreStep}
use Rattle.js_number.specs.declared.Num.{Num}
use Rattle.js_number.specs.Arith.{text_of}
use Rattle.js_item.specs.Contents.{number, text as text_value}
use Rattle.eval_values.specs.Conversions.{spelled, to_string}
use Rattle.eval_values.specs.Operators.{primitive, plus, plus_primitives, concatenated}
use Rattle.js_item.specs.Fine.{IsFine}
use Rattle.eval_values.specs.Does.{GivesValue, GivesText}
use Rattle.eval_values.proofs.Compose.{did_bind, did_stop, did_after, did_before, ran_free, ran_of_step}
use Rattle.eval_values.proofs.Still.{seen_still}

module _ {F R : Type 0} (name : R → ℕ) where
  -- a string as a value
  pub text_given : (a b : State F) (v : Val) (r : R) → IsKnown b (name r) → GivesText name a b (Ok r) (to_string a.limit v) → GivesValue
      name a b (Ok (Text r)) (bind (to_string a.limit v) (λ u. gave (text_value u) free))
  text_given a b v r k d = did_bind a b b (λ s q. text s (name q)) (λ s q. IsKnown s (name q)) (λ s q. seen s name q)
      (λ s q. IsFine s name q) r (Ok (Text r)) (to_string a.limit v) (λ u. gave (text_value u) free) d (record { is = refl; good = k; ran = ran_free b })

  pub text_ends : (a b : State F) (v : Val) (n : Stop) → GivesText name a b (Err n) (to_string a.limit v) → GivesValue name a b (Err n) (bind (to_string a.limit v) (λ u. gave (text_value u) free))
  text_ends a b v n d = did_stop a b (λ s q. text s (name q)) (λ s q. IsKnown s (name q)) (λ s q. seen s name q) (λ s q. IsFine s name q) n (to_string a.limit v) (λ u. gave (text_value u) free) d

  -- what is meant of a value stays while the store grows
  pub meant : (a b c : State F) (v : Item R) (r : Result (Item R) Stop) → Grows a b → IsFine a name v → GivesValue name b c r
      (primitive b.limit (seen b name v)) → GivesValue name b c r (primitive a.limit (seen a name v))
  meant a b c v r g h d =
      subst (λ (l : ℕ). GivesValue name b c r (primitive l (seen a name v))) g.limit
      (subst (λ (o : Val). GivesValue name b c r (primitive b.limit o)) (seen_still a b name g v h) d)

  pub sum_does : (a b c d : State F) (at : ℕ) (v w x y : Item R) (r : Result (Item R) Stop) → Grows a b → Grows b c → IsFine a name w →
      IsFine b name x → GivesValue name a b (Ok x) (primitive a.limit (seen a name v)) → GivesValue name b c (Ok y)
      (primitive b.limit (seen b name w)) → GivesValue name c d r (plus_primitives at c.limit (seen c name x) (seen c name y)) → GivesValue
      name a d r (plus at a.limit (seen a name v) (seen a name w))
  sum_does a b c d at v w x y r g h f k e e' z =
      let one : GivesValue name c d r (plus_primitives at a.limit (seen c name x) (seen c name y)) = subst
      (λ (q : ℕ). GivesValue name c d r (plus_primitives at q (seen c name x) (seen c name y))) (grows_trans g h).limit z in
      let last : GivesValue name c d r (plus_primitives at a.limit (seen b name x) (seen c name y)) = subst
      (λ (q : Val). GivesValue name c d r (plus_primitives at a.limit q (seen c name y))) (seen_still b c name h x k) one in
      did_bind a b d (λ s q. seen s name q) (λ s q. IsFine s name q) (λ s q. seen s name q) (λ s q. IsFine s name q) x r
      (primitive a.limit (seen a name v)) (λ p. bind (primitive a.limit (seen a name w)) (λ q. plus_primitives at a.limit p q)) e
      (did_bind b c d (λ s q. seen s name q) (λ s q. IsFine s name q) (λ s q. seen s name q) (λ s q. IsFine s name q) y r
      (primitive a.limit (seen a name w)) (λ q. plus_primitives at a.limit (seen b name x) q) (meant a b c w (Ok y) g f e') last)

  pub first_ends : (a b : State F) (at : ℕ) (v w : Item R) (n : Stop) → GivesValue name a b (Err n) (primitive a.limit (seen a name v)) →
      GivesValue name a b (Err n) (plus at a.limit (seen a name v) (seen a name w))
  first_ends a b at v w n e = did_stop a b (λ s q. seen s name q) (λ s q. IsFine s name q) (λ s q. seen s name q) (λ s q. IsFine s name q) n
      (primitive a.limit (seen a name v)) (λ p. bind (primitive a.limit (seen a name w)) (λ q. plus_primitives at a.limit p q)) e

  pub second_ends : (a b c : State F) (at : ℕ) (v w x : Item R) (n : Stop) → Grows a b → IsFine a name w → GivesValue name a b (Ok x)
      (primitive a.limit (seen a name v)) → GivesValue name b c (Err n) (primitive b.limit (seen b name w)) → GivesValue name a c (Err n)
      (plus at a.limit (seen a name v) (seen a name w))
  second_ends a b c at v w x n g f e e' =
      did_bind a b c (λ s q. seen s name q) (λ s q. IsFine s name q) (λ s q. seen s name q) (λ s q. IsFine s name q) x (Err n)
      (primitive a.limit (seen a name v)) (λ p. bind (primitive a.limit (seen a name w)) (λ q. plus_primitives at a.limit p q)) e
      (did_stop b c (λ s q. seen s name q) (λ s q. IsFine s name q) (λ s q. seen s name q) (λ s q. IsFine s name q) n
      (primitive a.limit (seen a name w)) (λ q. plus_primitives at a.limit (seen b name x) q) (meant a b c w (Err n) g f e'))

-- two strings, each of which is its own primitive value and its own string
pub texts_sum : {F R : Type 0} (name : R → ℕ) (a b : State F) (at : ℕ) (u w : List ℕ) (r : Result (Item R) Stop) → GivesValue name a b r
    (concatenated a.limit u w) → GivesValue name a b r (plus at a.limit (text_value u) (text_value w))
texts_sum {R = R} name a b at u w r d =
    let free_before : (o : Out Val) → GivesValue name a b r o → GivesValue name a b r (after_ledger free o) =
    λ o k. did_after a a b (λ s (q : Item R). seen s name q) (λ s (q : Item R). IsFine s name q) free r o (ran_free a) k in
    let second : Out Val = after_ledger free (concatenated a.limit u w) in
    let both : Out Val = after_ledger free second in
    free_before (after_ledger free both) (free_before both (free_before second (free_before (concatenated a.limit u w) d)))

-- what is done behind a string of so many units
pub spelled_sum : {F R : Type 0} (name : R → ℕ) (a b : State F) (u w : List ℕ) (r : Result (Item R) Stop) → GivesValue name a b r
    (concatenated a.limit u w) → GivesValue name a b r (bind (spelled w) (concatenated a.limit u))
spelled_sum {R = R} name a b u w r d =
    did_after a a b (λ s (q : Item R). seen s name q) (λ s (q : Item R). IsFine s name q) (cost (reads (length w))) r (concatenated a.limit u w)
    (ran_of_step (ids_in (reads (length w))) (words_in (reads (length w))) (step_refl a) refl (omega arith) (omega arith)) d

-- a string and a number
pub number_sum : {F R : Type 0} (name : R → ℕ) (a b : State F) (at : ℕ) (u : List ℕ) (n : Num) (r : Result (Item R) Stop) → GivesValue name
    a b r (bind (spelled (text_of n)) (concatenated a.limit u)) → GivesValue name a b r (plus at a.limit (text_value u) (number n))
number_sum {R = R} name a b at u n r d =
    let free_before : (o : Out Val) → GivesValue name a b r o → GivesValue name a b r (after_ledger free o) =
    λ o k. did_after a a b (λ s (q : Item R). seen s name q) (λ s (q : Item R). IsFine s name q) free r o (ran_free a) k in
    let one : Out Val = bind (spelled (text_of n)) (concatenated a.limit u) in
    let two : Out Val = after_ledger free one in
    free_before (after_ledger free two) (free_before two (free_before one d))

-- the same behind a call that uses nothing
pub number_later : {F R : Type 0} (name : R → ℕ) (a b c : State F) (s : ℕ) (n : Num) (r : Result (Item R) Stop) → IsKnown a s → StoreStep
    a b None 0 0 → b.history ≡ a.history → GivesValue name b c r (bind (spelled (text_of n)) (concatenated b.limit (text b s))) → GivesValue
    name a c r (bind (spelled (text_of n)) (concatenated a.limit (text a s)))
number_later {R = R} name a b c s n r k step history d =
    did_before a b c (λ z (q : Item R). seen z name q) (λ z (q : Item R). IsFine z name q) r
    (bind (spelled (text_of n)) (concatenated a.limit (text a s))) step history
    (subst (λ (q : ℕ × List ℕ). GivesValue name b c r (bind (spelled (text_of n)) (concatenated q.0 q.1)))
    {x = (b.limit, text b s)} {y = (a.limit, text a s)} (cc (step.grows.limit, text_still step.grows s k)) d)
