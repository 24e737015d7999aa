-- Own words that were filled with the units of a Cons, and what the compare-exchange that flattens it leaves.
use Rattle.std.proofs.Common.{◌≡◌, ◌≢◌, ℕ, zero, suc, ◌+◌, ◌*◌, ◌/◌, ◌<◌, ◌≤◌, ◌==◌, ◌⊎◌, inl, inr, Bool, true, false, cond, List, [], length, get_or, refl, ap}
use Rattle.std.proofs.Common.{sym, subst, ◌∙◌, arith, eq-eqb, ne_eqb, Option, Some, None}
use Rattle.std.specs.Prelude.{unwrap_or}
use Rattle.std.proofs.lemmas.Grind.{same_number_lists}
use Rattle.std.specs.FinMap.{FinMap, get, insert, remove}
use Rattle.std.specs.Ordering.{nat_cmp}
use Rattle.js_units.specs.Lanes.{lane_count, words_over}
use Rattle.js_header.specs.Form.{form_of, word_of}
use Rattle.js_header.specs.declared.form.Form.{Form}
use Rattle.js_header.specs.declared.form.Form.TheVariants.{Flat}
use Rattle.heap_rule.specs.declared.view.View.{View}
use Rattle.heap_rule.specs.Births.{freeze_form}
use Rattle.heap_rule.specs.Contents.{lane_in, span}
use Rattle.heap_rule.specs.HeaderMoves.{flattened, seen_form}
use Rattle.heap_rule.specs.Learning.{learned_all}
use Rattle.heap_rule.specs.Maps.{Has, HasKey, without_run}
use Rattle.heap_rule.specs.Views.{shown_word}
use Rattle.heap_rule.proofs.Birth.{length_span}
use Rattle.heap_rule.proofs.MapLemmas.{has_key, insert_same, key_of, remove_other}
use Rattle.heap_rule.proofs.Possible.{span_lane}
use Rattle.heap_rule.proofs.UnitLemmas.{lane_same}
use Rattle.heap_table.specs.Headers.{IsMoved, header_found}
use Rattle.heap_table.specs.Known.{KeepsKnown}
use Rattle.heap_table.specs.declared.stores.Step.{Step}
use Rattle.heap_table.specs.declared.stores.Step.TheVariants.{Won, Lost}
use Rattle.heap_bytes.proofs.Runs.{lane_there, word_inside, zero_lane}
use Rattle.heap_read.specs.Filling.{IsFilled, own_word}
use Rattle.heap_read.specs.Reads.{Continues, KeepsBelow}
use Rattle.heap_text.proofs.Owned.{without_other}
use Rattle.heap_read.proofs.Storing.{shown_own}

-- the words of a run are all own, were 0, and the units stand in the lanes from 0 on
module _ (v : View) (before : FinMap nat_cmp ℕ) (wide : Bool) (start : ℕ) (us : List ℕ) (f : IsFilled wide start (own_word before) (own_word v.own_words) 0 (length us) (λ k. get_or us k 0))
    (own : (q : ℕ) → q < words_over wide (length us) → HasKey v.own_words (start + q)) where
  shown_lane : (o : ℕ) → o < words_over wide (length us) * lane_count wide → lane_in (shown_word v) wide start o ≡ lane_in (own_word v.own_words) wide start o
  shown_lane o l = lane_same (shown_word v) (own_word v.own_words) wide start o (shown_own v (start + o / lane_count wide) (own (o / lane_count wide) (word_inside wide (length us) o l)))

  pub filled_span : span (shown_word v) wide start 0 (length us) ≡ us
  filled_span = same_number_lists (span (shown_word v) wide start 0 (length us)) us (length_span (shown_word v) wide start 0 (length us))
      (λ k l. let n = length_span (shown_word v) wide start 0 (length us) in let l' : k < length us = omega arith in let m : 0 + k < length us = omega arith in
      span_lane (shown_word v) wide start 0 (length us) k l' ∙ (shown_lane (0 + k) (lane_there wide (length us) (0 + k) m) ∙ f.inside k l'))

  pub filled_zeros : ((q : ℕ) → q < words_over wide (length us) → Has before (start + q) 0) → (o : ℕ) → length us ≤ o → o < words_over wide
      (length us) * lane_count wide → lane_in (shown_word v) wide start o ≡ 0
  filled_zeros none o lo hi = shown_lane o hi ∙ (f.above o (omega arith) ∙ zero_lane (own_word before) wide start o
      (ap (λ (x : Option ℕ). unwrap_or x 0) (none (o / lane_count wide) (word_inside wide (length us) o hi))))

key_without : (m : FinMap nat_cmp ℕ) (c n q : ℕ) → q < c → HasKey m q → HasKey (without_run m c n) q
key_without m c zero q l h = h
key_without m c (suc n) q l h = key_without (remove m c) (suc c) n q (omega arith) (let p = has_key m q h in key_of (remove m c) q p.0 (remove_other m c q (λ e. absurd (omega arith)) ∙ p.1))

-- what the compare-exchange leaves beside forms, own and frozen words
pub record IsMoving (v w : View) (start : ℕ) : Type 0 where
  pub continues : Continues v w
  pub used : w.used ≡ v.used
  pub own_ids : w.own_ids ≡ v.own_ids
  pub loads : w.form_loads ≡ v.form_loads
  pub own_words : (c : ℕ) → c < start → HasKey v.own_words c → HasKey w.own_words c
  pub below : KeepsBelow start v w

module _ (v : View) (i n : ℕ) (wide : Bool) (start : ℕ) where
  abbrev moved : Bool → Option Form → View
  moved b o = cond b (let w : View = freeze_form v n (Flat wide start false) in record w { forms = insert v.forms i (Flat wide start false) }) (seen_form v i o)

  moving_by : (b : Bool) (o : Option Form) → KeepsKnown v (learned_all (moved b o)) → IsMoving v (learned_all (moved b o)) start
  moving_by true o k = record {
    continues = record {
      known = k;
      sizes = refl;
      agents = refl;
      live = refl;
      share = refl;
      ids_used = omega arith;
      words_used = omega arith;
      ids_low = omega arith;
      words_low = omega arith;
      slots = refl;
      seen = refl;
      mine = refl;
      slot_loads = refl;
    };
    used = refl;
    own_ids = refl;
    loads = refl;
    own_words = λ c l h. key_without v.own_words start (words_over wide n) c l h;
    below = λ c x l h. without_other v.own_words start (words_over wide n) c x (λ k m e. omega arith) h;
  }
  moving_by false None k = record {
    continues = record {
      known = k;
      sizes = refl;
      agents = refl;
      live = refl;
      share = refl;
      ids_used = omega arith;
      words_used = omega arith;
      ids_low = omega arith;
      words_low = omega arith;
      slots = refl;
      seen = refl;
      mine = refl;
      slot_loads = refl;
    };
    used = refl;
    own_ids = refl;
    loads = refl;
    own_words = λ c l h. h;
    below = λ c x l h. h;
  }
  moving_by false (Some f) k = record {
    continues = record {
      known = k;
      sizes = refl;
      agents = refl;
      live = refl;
      share = refl;
      ids_used = omega arith;
      words_used = omega arith;
      ids_low = omega arith;
      words_low = omega arith;
      slots = refl;
      seen = refl;
      mine = refl;
      slot_loads = refl;
    };
    used = refl;
    own_ids = refl;
    loads = refl;
    own_words = λ c l h. h;
    below = λ c x l h. h;
  }

  lost_by : (b : Bool) (o : Option Form) → b ≡ false → (learned_all (moved b o)).own_words ≡ v.own_words
  lost_by true o e = absurd (cc)
  lost_by false None e = refl
  lost_by false (Some f) e = refl

  won_by : (b : Bool) (o : Option Form) → b ≡ true → Has (learned_all (moved b o)).forms i (Flat wide start false)
  won_by true o e = insert_same v.forms i (Flat wide start false)
  won_by false o e = absurd (cc)

module _ (v w : View) (i : ℕ) (old : Form) (wide : Bool) (start x : ℕ) (e : w ≡ learned_all (flattened v i old (Flat wide start false) x)) where
  pub is_moving : KeepsKnown v w → IsMoving v w start
  is_moving k = subst (λ (u : View). IsMoving v u start) (sym e) (moving_by v i (length (unwrap_or (get v.units i) [])) wide start (x == word_of old) (form_of x) (subst (KeepsKnown v) e k))

  lost_own : x ≢ word_of old → w.own_words ≡ v.own_words
  lost_own ne = ap (λ (u : View). u.own_words) e ∙ lost_by v i (length (unwrap_or (get v.units i) [])) wide start (x == word_of old) (form_of x) (ne_eqb x (word_of old) ne)

  won_form : x ≡ word_of old → Has w.forms i (Flat wide start false)
  won_form is = subst (λ (u : View). Has u.forms i (Flat wide start false)) (sym e)
      (won_by v i (length (unwrap_or (get v.units i) [])) wide start (x == word_of old) (form_of x) (eq-eqb x (word_of old) is))

-- the Flat stands, or the words are own still
pub won_or_lost : (v w : View) (i : ℕ) (old : Form) (wide : Bool) (start n : ℕ) (s : Step) → IsMoved old s → w ≡ learned_all
    (flattened v i old (Flat wide start false) (header_found old s)) → ((q : ℕ) → q < n → HasKey v.own_words (start + q))
    → Has w.forms i (Flat wide start false) ⊎ ((q : ℕ) → q < n → HasKey w.own_words (start + q))
won_or_lost v w i old wide start n Won m e own = inl (won_form v w i old wide start (word_of old) e refl)
won_or_lost v w i old wide start n (Lost x) m e own = inr (λ q l. subst (λ (k : FinMap nat_cmp ℕ). HasKey k (start + q)) (sym (lost_own v w i old wide start x e m)) (own q l))
