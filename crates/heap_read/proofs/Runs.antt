-- Lanes of a run of words that are loaded, one word after the other.
use Rattle.std.proofs.Common.{◌≡◌, ℕ, ◌+◌, ◌-◌, ◌/◌, ◌%◌, ◌^◌, ◌<◌, ◌≤◌, inl, inr, ⊎_elim, Bool, true, false, sym, ap, ◌∙◌, subst, arith, Option}
use Rattle.std.proofs.lemmas.Bool.{cases_lt}
use Rattle.std.proofs.Math.Nat.{pow-zero}
use Rattle.std.specs.Prelude.{unwrap_or}
use Rattle.std.specs.FinMap.{FinMap, get}
use Rattle.std.specs.Ordering.{nat_cmp}
use Rattle.js_units.specs.Lanes.{lane_base, lane_count, lane_of}
use Rattle.js_header.specs.declared.form.Form.TheVariants.{Flat}
use Rattle.heap_rule.specs.declared.view.View.{View}
use Rattle.heap_rule.specs.Contents.{lane_in}
use Rattle.heap_rule.specs.Loads.{MayLoadWord}
use Rattle.heap_rule.specs.Maps.{HasKey}
use Rattle.heap_rule.specs.Views.{IsFrozen, shown_word}
use Rattle.heap_rule.proofs.MapLemmas.{has_key}
use Rattle.heap_read.specs.Filling.{own_word}
use Rattle.heap_read.specs.Reads.{HoldsForms, OnlyLoads}
use Rattle.heap_read.specs.Shifted.{HasWord, HoldsLanes}
use Rattle.heap_read.proofs.Freezing.{word_kept}
use Rattle.heap_read.proofs.Holding.{lane_by}
use Rattle.heap_read.proofs.Placing.{in_word}
use Rattle.heap_read.proofs.ShiftedLanes.{holds_as}
use Rattle.heap_read.proofs.Showing.{length_kept}
use Rattle.heap_read.proofs.Storing.{shown_own}

-- the lanes of one word
pub run_one : (f : ℕ → ℕ) (wide : Bool) (start o count number low word r : ℕ) → number ≡ o / lane_count wide → low ≡ o % lane_count wide
    → o % lane_count wide + count ≤ lane_count wide → word ≡ f (start + number) → HoldsLanes wide r count (λ k. lane_of wide word (low + k)) → HoldsLanes wide r count (λ k. lane_in f wide start (o + k))
run_one f wide start o count number low word r a b room e h = holds_as wide r count (λ k. lane_of wide word (low + k)) (λ k. lane_in f wide start (o + k)) h
    (λ k l. let s = in_word wide o k count room l in
    lane_by f wide start (o + k) (start + number) (low + k) word (ap (λ (y : ℕ). start + y) (s.0 ∙ sym a)) (s.1 ∙ ap (λ (y : ℕ). y + k) (sym b)) e)

-- those of two words, one above the other
pub run_two : (f : ℕ → ℕ) (wide : Bool) (start o count here a b r : ℕ) → here < count → HoldsLanes wide a here (λ k. lane_in f wide start (o + k))
    → HoldsLanes wide b (count - here) (λ k. lane_in f wide start (o + here + k)) → r < lane_base wide ^ (here + (count - here))
    → ((q : ℕ) → q < here → lane_of wide r q ≡ lane_of wide a q) → ((q : ℕ) → lane_of wide r (here + q) ≡ lane_of wide b q) → HoldsLanes wide r count (λ k. lane_in f wide start (o + k))
run_two f wide start o count here a b r l low high small below above = let sum : here + (count - here) ≡ count = omega arith in record {
  small = subst (λ (n : ℕ). r < lane_base wide ^ n) sum small;
  each = λ k m. ⊎_elim
      (λ (t : k < here). below k t ∙ low.each k t)
      (λ (t : here ≤ k). let j : ℕ = k - here in let e : k ≡ here + j = omega arith in let g : o + here + j ≡ o + k = omega arith in
      ap (lane_of wide r) e ∙ (above j ∙ (high.each j (omega arith) ∙ ap (lane_in f wide start) g)))
      (cases_lt k here);
}

-- lanes of one word lie in the same one, and the lane behind its last is the lowest of the next
pub same_place : (wide : Bool) (start o count q : ℕ) → o % lane_count wide + count ≤ lane_count wide → o ≤ q → q < o + count → start + q / lane_count wide ≡ start + o / lane_count wide
same_place true start o count q room l m = omega arith
same_place false start o count q room l m = omega arith

pub next_lowest : (wide : Bool) (o here : ℕ) → o % lane_count wide + here ≡ lane_count wide → (o + here) % lane_count wide ≡ 0
next_lowest true o here e = omega arith
next_lowest false o here e = omega arith

-- what is own or frozen stays so over loads, and its word is shown as before
module _ (v u : View) (reads : OnlyLoads v u) where
  own_here : (c : ℕ) → HasKey v.own_words c → HasKey u.own_words c
  own_here c h = subst (λ (m : FinMap nat_cmp ℕ). HasKey m c) (sym reads.own_words) h

  pub has_kept : (c : ℕ) → HasWord v c → HasWord u c
  has_kept c h = ⊎_elim (λ (a : HasKey v.own_words c). inl (own_here c a)) (λ (b : HasKey v.frozen c). inr (word_kept v u reads.known c b)) h

  pub may_kept : HoldsForms v u → (c : ℕ) → MayLoadWord v c → MayLoadWord u c
  may_kept forms c h = ⊎_elim
      (λ (a : HasKey v.own_words c). inl (own_here c a))
      (λ (b : IsFrozen v c). inr (⊎_elim
      (λ (d : HasKey v.frozen c). inl (word_kept v u reads.known c d))
      (λ t. inr (t.0, t.1, t.2, t.3, t.4, forms t.0 (Flat t.1 t.2 t.3) t.5, length_kept v u forms reads.known t.0 t.4 t.6, t.7, t.8))
      b))
      h

  shown_frozen : (c : ℕ) → HasKey v.frozen c → shown_word u c ≡ shown_word v c
  shown_frozen c h = let p = has_key v.frozen c h in
      ap (λ (m : FinMap nat_cmp ℕ). unwrap_or (get m c) (unwrap_or (get u.frozen c) 0)) reads.own_words
      ∙ ap (λ (o : Option ℕ). unwrap_or (get v.own_words c) (unwrap_or o 0)) (reads.known.frozen c p.0 p.1 ∙ sym p.1)

  pub shown_kept : (c : ℕ) → HasWord v c → shown_word u c ≡ shown_word v c
  shown_kept c h = ⊎_elim
      (λ (a : HasKey v.own_words c). shown_own u c (own_here c a) ∙ (ap (λ (m : FinMap nat_cmp ℕ). unwrap_or (get m c) 0) reads.own_words ∙ sym (shown_own v c a)))
      (λ (b : HasKey v.frozen c). shown_frozen c b)
      h

-- lanes that were loaded are those of a later view
pub lanes_kept : (v u : View) (wide : Bool) (start o count r : ℕ) → OnlyLoads v u → o % lane_count wide + count ≤ lane_count wide → HasWord v (start + o / lane_count wide)
    → HoldsLanes wide r count (λ k. lane_in (shown_word v) wide start (o + k)) → HoldsLanes wide r count (λ k. lane_in (shown_word u) wide start (o + k))
unfolding lane_in
lanes_kept v u wide start o count r reads room has h = holds_as wide r count (λ k. lane_in (shown_word v) wide start (o + k)) (λ k. lane_in (shown_word u) wide start (o + k)) h
    (λ k l. let e : start + (o + k) / lane_count wide ≡ start + o / lane_count wide = same_place wide start o count (o + k) room (omega arith) (omega arith) in
    ap (λ (x : ℕ). lane_of wide x ((o + k) % lane_count wide)) (sym (shown_kept v u reads (start + (o + k) / lane_count wide) (subst (HasWord v) (sym e) has))))

-- a lane of an own word is as the agent stored it
pub own_lane : (v : View) (wide : Bool) (start o : ℕ) → HasKey v.own_words (start + o / lane_count wide) → lane_in (shown_word v) wide start o ≡ lane_in (own_word v.own_words) wide start o
unfolding lane_in
own_lane v wide start o h = ap (λ (x : ℕ). lane_of wide x (o % lane_count wide)) (shown_own v (start + o / lane_count wide) h)

pub no_lanes : (wide : Bool) (count : ℕ) (unit : ℕ → ℕ) → count ≡ 0 → HoldsLanes wide 0 count unit
no_lanes wide count unit e = record {
  small = subst (λ (n : ℕ). 0 < lane_base wide ^ n) (sym e) (let o = pow-zero (lane_base wide) in omega (arith, o));
  each = λ k l. absurd (omega (arith, e, l));
}
