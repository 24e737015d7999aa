-- What an agent owns stays its own while a string is made: what a call claims lies apart from it.
use Rattle.std.proofs.Common.{◌≡◌, ◌≢◌, ℕ, zero, suc, ◌+◌, ◌-◌, ◌<◌, ◌≤◌, ⊎_elim, ◌⊎◌, inl, inr, Bool, false, ap, sym, subst, ◌∙◌, arith, Option}
use Rattle.std.specs.Prelude.{unwrap_or}
use mathlib.Core.Logic.{dite}
use native.Mathlib.Decide.{dec_le}
use Rattle.std.specs.FinMap.{FinMap, get, insert, remove}
use Rattle.std.specs.Ordering.{nat_cmp}
use Rattle.js_units.specs.Lanes.{words_over}
use Rattle.js_header.specs.declared.form.Form.TheVariants.{Cons, Flat, Sliced}
use Rattle.heap_rule.specs.declared.view.View.{View}
use Rattle.heap_rule.specs.declared.size.Counter.{Counter}
use Rattle.heap_rule.specs.declared.size.Counter.TheVariants.{Ids, Words}
use Rattle.heap_rule.specs.Births.{born, stored_length}
use Rattle.heap_rule.specs.Claims.{loaded_counter, won_claim}
use Rattle.heap_rule.specs.Maps.{Has, HasKey, without_run}
use Rattle.heap_rule.proofs.MapLemmas.{insert_other, insert_same, key_of, remove_other}
use Rattle.heap_read.specs.Reads.{KeepsBelow, OnlyLoads}
use Rattle.heap_read.proofs.Going.{run_below}
use Rattle.heap_text.specs.Texts.{KeepsOwn, KeepsOwnBut}

pub own_trans : (u v w : View) → KeepsOwn u v → KeepsOwn v w → KeepsOwn u w
own_trans u v w a b = record { ids = λ i n h. b.ids i n (a.ids i n h); words = λ c x h. b.words c x (a.words c x h) }

pub own_reads : (v w : View) → OnlyLoads v w → KeepsOwn v w
own_reads v w r = record {
  ids = λ i n h. subst (λ (m : FinMap nat_cmp ℕ). Has m i n) (sym r.own_ids) h;
  words = λ c x h. subst (λ (m : FinMap nat_cmp ℕ). Has m c x) (sym r.own_words) h;
}

-- content words were claimed and written
pub own_written : (v w : View) → w.own_ids ≡ v.own_ids → ((c x : ℕ) → Has v.own_words c x → Has w.own_words c x) → KeepsOwn v w
own_written v w ids words = record { ids = λ i n h. subst (λ (m : FinMap nat_cmp ℕ). Has m i n) (sym ids) h; words = words }

-- nothing was left to claim
pub own_full : (v w x : View) (k : Counter) (at : ℕ) → x ≡ loaded_counter w k at → KeepsOwn v w → KeepsOwn v x
own_full v w x k at e kept = subst (KeepsOwn v) (sym e) record { ids = kept.ids; words = kept.words }

module _ {X : Type 0} where
  -- what lies apart from a run stays when the run goes
  pub without_other : (m : FinMap nat_cmp X) (c n q : ℕ) (x : X) → ((k : ℕ) → k < n → q ≢ c + k) → Has m q x → Has (without_run m c n) q x
  without_other m c zero q x away h = h
  without_other m c (suc n) q x away h = without_other (remove m c) (suc c) n q x (λ k l e. away (suc k) (omega arith) (omega arith)) (remove_other m c q (λ e. away 0 (omega arith) (omega arith)) ∙ h)

pub own_refl : (v : View) → KeepsOwn v v
own_refl v = record { ids = λ i n h. h; words = λ c x h. h }

-- The length of an own id is stored, and it is born.
module _ (v u : View) (id n : ℕ) (kept : KeepsOwn v u) where
  but_id : (i k : ℕ) → i ≢ id → Has v.own_ids i k → Has (remove (insert u.own_ids id n) id) i k
  but_id i k ne h = remove_other (insert u.own_ids id n) id i ne ∙ (insert_other u.own_ids id i n ne ∙ kept.ids i k h)

  pub but_flat : (wide : Bool) (start : ℕ) → KeepsOwnBut v (born (stored_length u id n) id (Flat wide start false)) id start (words_over wide n)
  but_flat wide start = let y : View = stored_length u id n in let count : ℕ = unwrap_or (get y.own_ids id) 0 in
      let long : count ≡ n = ap (λ (o : Option ℕ). unwrap_or o 0) (insert_same u.own_ids id n) in record {
        ids = but_id;
        words = λ c x side h. without_other u.own_words start (words_over wide count) c x
            (λ k l e. let m : k < words_over wide n = subst (λ (m : ℕ). k < words_over wide m) long l in ⊎_elim
            (λ low. absurd (omega (arith, low, e))) (λ high. absurd (omega (arith, high, e, m))) side) (kept.words c x h);
      }

  pub but_rope : (wide : Bool) (l r : ℕ) → KeepsOwnBut v (born (stored_length u id n) id (Cons wide l r)) id 0 0
  but_rope wide l r = record { ids = but_id; words = λ c x side h. kept.words c x h }

  pub but_part : (wide : Bool) (parent offset : ℕ) → KeepsOwnBut v (born (stored_length u id n) id (Sliced wide parent offset)) id 0 0
  but_part wide parent offset = record { ids = but_id; words = λ c x side h. kept.words c x h }

-- what lies apart from a run lies beside it
beside : (v : View) (start n : ℕ) → ((q : ℕ) → q < n → HasKey v.own_words (start + q) → ⊥) → (c : ℕ) → HasKey v.own_words c → (c < start) ⊎ (start + n ≤ c)
beside v start n fresh c h = dite (dec_le (start + n) c)
    (λ l. inr l)
    (λ l. dite (dec_le start c)
    (λ m. let e : start + (c - start) ≡ c = omega arith in absurd (fresh (c - start) (omega arith) (subst (HasKey v.own_words) (sym e) h)))
    (λ m. inl (omega arith)))

-- An id above all own ones is claimed, and born over content words that were not own before.
pub own_born : (v w x z : View) (id start n : ℕ) → KeepsOwn v w → x ≡ won_claim w Ids id 1 → ((i : ℕ) → HasKey w.own_ids i → i < id) → KeepsOwnBut x z id start n
    → ((q : ℕ) → q < n → HasKey v.own_words (start + q) → ⊥) → KeepsOwn v z
own_born v w x z id start n kept e above but fresh = record {
  ids = λ i k h. let here = kept.ids i k h in let low = above i (key_of w.own_ids i k here) in let ne : i ≢ id = (λ d. omega arith) in
      but.ids i k ne (subst (λ (y : View). Has y.own_ids i k) (sym e) (insert_other w.own_ids id i 0 ne ∙ here));
  words = λ c y h. but.words c y (beside v start n fresh c (key_of v.own_words c y h)) (subst (λ (a : View). Has a.own_words c y) (sym e) (kept.words c y h));
}

-- Content words above all own ones were claimed and written, and became those of a Flat or stayed the agent's own.
pub own_moved : (v w f x : View) (start want : ℕ) → w ≡ won_claim v Words start want → ((c : ℕ) → HasKey v.own_words c → c < start) →
    f.own_ids ≡ w.own_ids → KeepsBelow start w f → x.own_ids ≡ f.own_ids → KeepsBelow start f x → KeepsOwn v x
own_moved v w f x start want e above ids filled same moved = record {
  ids = λ i n h. subst (λ (m : FinMap nat_cmp ℕ). Has m i n) (sym (same ∙ (ids ∙ ap (λ (y : View). y.own_ids) e))) h;
  words = λ c y h. let low = above c (key_of v.own_words c y h) in
      moved c y low (filled c y low (subst (λ (a : View). Has a.own_words c y) (sym e) (run_below v.own_words start want c 0 y low h)));
}
