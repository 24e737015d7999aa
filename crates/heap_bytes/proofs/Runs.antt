-- Own words of a run that were filled with units from its first lane on.
use Rattle.std.proofs.Common.{◌≡◌, ℕ, zero, suc, ◌+◌, ◌*◌, ◌/◌, ◌%◌, ◌^◌, ◌<◌, ◌≤◌, Bool, true, false, List, length, get_or, ap, ap₂, sym, subst, ◌∙◌, arith, ⊎_elim, Option}
use Rattle.std.specs.Prelude.{unwrap_or}
use Rattle.std.proofs.lemmas.Bool.{cases_lt}
use Rattle.std.proofs.lemmas.List.{get_or_past}
use mathlib.Core.Logic.{dite}
use native.Mathlib.Decide.{ℕ_discrete}
use Rattle.std.specs.FinMap.{FinMap, get, insert}
use Rattle.std.specs.Ordering.{nat_cmp}
use Rattle.js_units.specs.Lanes.{IsWordOf, lane_base, lane_count, lane_of, words_over}
use Rattle.js_units.proofs.PackedWords.{lane_past}
use Rattle.heap_rule.specs.declared.view.View.{View}
use Rattle.heap_rule.specs.Contents.{lane_in}
use Rattle.heap_rule.specs.Maps.{Has, HasKey, with_run}
use Rattle.heap_rule.proofs.MapLemmas.{has_key, insert_other, insert_same}
use Rattle.heap_read.specs.Filling.{IsFilled, own_word}
use Rattle.heap_read.specs.Written.{AreWords}

-- the words of a claim are 0
put_still : (m : FinMap nat_cmp ℕ) (k q : ℕ) → Has m q 0 → Has (insert m k 0) q 0
put_still m k q h = dite (ℕ_discrete q k)
    (λ e. ap (get (insert m k 0)) e ∙ insert_same m k 0)
    (λ ne. insert_other m k q 0 ne ∙ h)

run_still : (m : FinMap nat_cmp ℕ) (k n q : ℕ) → Has m q 0 → Has (with_run m k n 0) q 0
run_still m k zero q h = h
run_still m k (suc n) q h = run_still (insert m k 0) (suc k) n q (put_still m k q h)

pub run_zero : (m : FinMap nat_cmp ℕ) (k n q : ℕ) → q < n → Has (with_run m k n 0) (k + q) 0
run_zero m k zero q l = absurd (omega arith)
run_zero m k (suc n) zero l = let e : k ≡ k + 0 = omega arith in subst (λ (c : ℕ). Has (with_run (insert m k 0) (suc k) n 0) c 0) e (run_still (insert m k 0) (suc k) n k (insert_same m k 0))
run_zero m k (suc n) (suc q) l = let e : suc k + q ≡ k + suc q = omega arith in subst (λ (c : ℕ). Has (with_run (insert m k 0) (suc k) n 0) c 0) e (run_zero (insert m k 0) (suc k) n q (omega arith))

pub word_inside : (wide : Bool) (n o : ℕ) → o < words_over wide n * lane_count wide → o / lane_count wide < words_over wide n
word_inside true n o l = omega arith
word_inside false n o l = omega arith

pub lane_there : (wide : Bool) (n o : ℕ) → o < n → o < words_over wide n * lane_count wide
lane_there true n o l = omega arith
lane_there false n o l = omega arith

pub words_more : (wide : Bool) (m n : ℕ) → m ≤ n → words_over wide m ≤ words_over wide n
words_more true m n l = omega arith
words_more false m n l = omega arith

one_base : (wide : Bool) → 0 < lane_base wide ^ 0
one_base true = omega arith
one_base false = omega arith

pub zero_lane : (f : ℕ → ℕ) (wide : Bool) (start o : ℕ) → f (start + o / lane_count wide) ≡ 0 → lane_in f wide start o ≡ 0
unfolding lane_in
zero_lane f wide start o e = ap (λ (x : ℕ). lane_of wide x (o % lane_count wide)) e ∙ lane_past wide 0 0 (o % lane_count wide) (one_base wide) (omega arith)

-- lane k of word number q
lane_at : (wide : Bool) (q k : ℕ) → k < lane_count wide → ((q * lane_count wide + k) / lane_count wide ≡ q) × ((q * lane_count wide + k) % lane_count wide ≡ k)
lane_at true q k l = (omega arith, omega arith)
lane_at false q k l = (omega arith, omega arith)

lane_within : (wide : Bool) (n q k : ℕ) → q < n → k < lane_count wide → q * lane_count wide + k < n * lane_count wide
lane_within true n q k l m = omega arith
lane_within false n q k l m = omega arith

pub no_words : (wide : Bool) (n : ℕ) → 0 < words_over wide n → n ≡ 0 → ⊥
no_words true n l e = omega arith
no_words false n l e = omega arith

own_is : (m : FinMap nat_cmp ℕ) (c x : ℕ) → Has m c x → own_word m c ≡ x
own_is m c x h = ap (λ (o : Option ℕ). unwrap_or o 0) h

-- words that were 0, and hold the units from the first lane on
module _ (before : FinMap nat_cmp ℕ) (v : View) (wide : Bool) (start : ℕ) (us : List ℕ) (f : IsFilled wide start (own_word before) (own_word v.own_words) 0 (length us) (λ k. get_or us k 0))
    (none : (q : ℕ) → q < words_over wide (length us) → Has before (start + q) 0) where
  lane_filled : (o : ℕ) → o < words_over wide (length us) * lane_count wide → lane_in (own_word v.own_words) wide start o ≡ get_or us o 0
  lane_filled o l = ⊎_elim
      (λ (m : o < length us). let e : 0 + o ≡ o = omega arith in ap (lane_in (own_word v.own_words) wide start) (sym e) ∙ f.inside o m)
      (λ (m : length us ≤ o). f.above o (omega arith) ∙ (zero_lane (own_word before) wide start o
      (own_is before (start + o / lane_count wide) 0 (none (o / lane_count wide) (word_inside wide (length us) o l))) ∙ sym (get_or_past us o 0 m)))
      (cases_lt o (length us))

  word_filled : (q : ℕ) → q < words_over wide (length us) → IsWordOf wide us q (own_word v.own_words (start + q))
  unfolding lane_in
  word_filled q l k m = let p = lane_at wide q k m in
      ap₂ (λ (a b : ℕ). lane_of wide (own_word v.own_words (start + a)) b) (sym p.0) (sym p.1) ∙ lane_filled (q * lane_count wide + k) (lane_within wide (words_over wide (length us)) q k l m)

  pub filled_words : ((q : ℕ) → q < words_over wide (length us) → HasKey v.own_words (start + q)) → AreWords v wide start us (words_over wide (length us))
  filled_words own = record { each = λ q l. let p = has_key v.own_words (start + q) (own q l) in (p.0, p.1, subst (IsWordOf wide us q) (own_is v.own_words (start + q) p.0 p.1) (word_filled q l)) }

-- a piece that was filled in, by the units that it is of
pub filled_as : (wide : Bool) (start : ℕ) (before after : ℕ → ℕ) (done count : ℕ)
    (piece unit : ℕ → ℕ) → ((k : ℕ) → k < count → piece k ≡ unit k) → IsFilled wide start before after done count piece → IsFilled wide start
    before after (0 + done) count unit
filled_as wide start before after done count piece unit same f = let e : 0 + done ≡ done = omega arith in
    subst (λ (at : ℕ). IsFilled wide start before after at count unit) (sym e) (record { inside = λ k l. f.inside k l ∙ same k l; below = f.below; above = f.above })
