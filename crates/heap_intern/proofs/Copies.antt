-- A Flat over a copy of units, in words that are own.
use Rattle.std.proofs.Common.{◌≡◌, ℕ, ◌+◌, ◌-◌, ◌*◌, ◌/◌, ◌%◌, ◌<◌, ◌≤◌, inl, Bool, true, false, List, length, get_or, sym, ap, ◌∙◌, subst, arith, Option}
use Rattle.std.specs.Prelude.{unwrap_or}
use Rattle.std.specs.FinMap.{FinMap, get}
use Rattle.std.specs.Ordering.{nat_cmp}
use Rattle.js_units.specs.Lanes.{lane_count, lane_of, words_over}
use Rattle.heap_rule.specs.declared.view.View.{View}
use Rattle.heap_rule.specs.Contents.{lane_in}
use Rattle.heap_rule.specs.Layout.{MAX}
use Rattle.heap_rule.specs.Maps.{Has, HasKey}
use Rattle.heap_rule.specs.Views.{shown_word}
use Rattle.heap_rule.proofs.MapLemmas.{has_key, key_of}
use Rattle.heap_read.specs.Written.{AreWords, IsWritten}
use Rattle.heap_intern.specs.Answers.{HasSpared}
use Rattle.heap_intern.specs.Headers.{MayBeOver}
use Rattle.heap_intern.proofs.Possibly.{word_of_lane}

-- the words of a copy are own, for a later view that has the same own words too; and none are where none are wanted
pub spared_as : (v w x : View) (wide : Bool) (start : ℕ) (us : List ℕ) (n m : ℕ) → AreWords w wide start us n → x.own_words ≡ w.own_words → n ≡ m
    → ((q : ℕ) → q < n → HasKey v.own_words (start + q) → ⊥) → HasSpared v x m
spared_as v w x wide start us n m h own e fresh = (
  start,
  λ q l. let t = h.each q (omega arith) in
      (subst (λ (y : FinMap nat_cmp ℕ). HasKey y (start + q)) (sym own) (key_of w.own_words (start + q) t.0 t.1), fresh q (omega arith)),
)

pub spared_none : (v w : View) (n : ℕ) → n ≡ 0 → HasSpared v w n
spared_none v w n e = (0, λ q l. absurd (omega arith))

-- what was no own word later was none before
pub spared_before : (a v w : View) (n : ℕ) → ((c x : ℕ) → Has a.own_words c x → Has v.own_words c x) → HasSpared v w n → HasSpared a w n
spared_before a v w n own h = (
  h.0,
  λ q l. let t = h.1 q l in
      (t.0, λ before. let k = has_key a.own_words (h.0 + q) before in t.1 (key_of v.own_words (h.0 + q) k.0 (own (h.0 + q) k.0 k.1))),
)

-- the lane of a unit in its word
lane_of_word : (wide : Bool) (o : ℕ) → (o % lane_count wide < lane_count wide) × (o / lane_count wide * lane_count wide + o % lane_count wide ≡ o)
lane_of_word true o = (omega arith, omega arith)
lane_of_word false o = (omega arith, omega arith)

-- so a Flat over the copy has the units
module _ (w : View) (wide : Bool) (start n : ℕ) (us : List ℕ) (written : IsWritten w wide start us) (long : n ≡ length us) where
  words_are : AreWords w wide start us (words_over wide n)
  words_are = subst (λ (m : ℕ). AreWords w wide start us (words_over wide m)) (sym long) written.words

  copied_lane : (o : ℕ) → o < words_over wide n * lane_count wide → lane_in (shown_word w) wide start o ≡ get_or us o 0
  unfolding lane_in
  copied_lane o l = let q : ℕ = o / lane_count wide in let t = words_are.each q (word_of_lane wide n o l) in let p = lane_of_word wide o in
      let here : shown_word w (start + q) ≡ t.0 = ap (λ (x : Option ℕ). unwrap_or x (unwrap_or (get w.frozen (start + q)) 0)) t.1 in
      ap (λ (x : ℕ). lane_of wide x (o % lane_count wide)) here ∙ (t.2 (o % lane_count wide) p.0 ∙ ap (λ (m : ℕ). get_or us m 0) p.1)

  pub copied_over : n ≤ MAX → MayBeOver w wide start n us
  copied_over short = record {
    small = written.small;
    long = long;
    short = short;
    words = λ c lo hi. let e : start + (c - start) ≡ c = omega arith in
        let t = words_are.each (c - start) (omega arith) in inl (subst (HasKey w.own_words) e (key_of w.own_words (start + (c - start)) t.0 t.1));
    lanes = copied_lane;
    empty = λ none. written.empty (sym long ∙ none);
  }
