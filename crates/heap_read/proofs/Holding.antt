-- The units that a held word shows.
use Rattle.std.proofs.Common.{◌≡◌, ℕ, zero, suc, ◌+◌, ◌-◌, ◌/◌, ◌%◌, ◌<◌, ◌≤◌, ◌⊎◌, Bool, true, false, List, ◌++◌, length, get_or, sym, ap, ◌∙◌, subst, refl, arith}
use Rattle.std.proofs.lemmas.List.{get_or_append_left, get_or-append_right, length-append}
use Rattle.js_units.specs.Lanes.{lane_count, lane_of}
use Rattle.heap_rule.specs.declared.view.View.{View}
use Rattle.heap_rule.specs.Contents.{lane_in}
use Rattle.heap_rule.specs.Maps.{HasKey}
use Rattle.heap_rule.specs.Sound.{IsPossible}
use Rattle.heap_rule.specs.Views.{shown_word}
use Rattle.heap_read.specs.declared.source.HeldWord.{HeldWord}
use Rattle.heap_read.specs.declared.string.Window.{Window}
use Rattle.heap_read.specs.Windows.{IsWindow}
use Rattle.heap_read.specs.Written.{HoldsUnits, ShowsOn}
use Rattle.heap_read.proofs.Showing.{window_length, window_unit}

-- a lane of the same word as lane p
pub same_word : (wide : Bool) (p back q : ℕ) → back ≤ p % lane_count wide → p % lane_count wide - back + q < lane_count wide
    → ((p - back + q) / lane_count wide ≡ p / lane_count wide) × ((p - back + q) % lane_count wide ≡ p % lane_count wide - back + q)
same_word true p back q l m = (omega arith, omega arith)
same_word false p back q l m = (omega arith, omega arith)

pub lane_small : (wide : Bool) (p : ℕ) → p % lane_count wide < lane_count wide
lane_small true p = omega arith
lane_small false p = omega arith

pub lane_by : (f : ℕ → ℕ) (wide : Bool) (start o c k word : ℕ) → start + o / lane_count wide ≡ c → o % lane_count wide ≡ k → word ≡ f c → lane_of wide word k ≡ lane_in f wide start o
unfolding lane_in
lane_by f wide start o c k word e m h = λ i. lane_of wide ((h ∙ ap f (sym e)) i) (sym m i)

pub held_window : (x : View) (w : Window) (us : List ℕ) (i at k back count word : ℕ) → IsPossible x → IsWindow x w us → i < w.len
    → at ≡ (w.offset + i) / lane_count w.wide → k ≡ (w.offset + i) % lane_count w.wide → back ≤ k → back ≤ i → count ≤ lane_count w.wide - (k - back) → count ≤ w.len - (i - back)
    → HasKey x.own_words (w.start + at) ⊎ HasKey x.frozen (w.start + at) → word ≡ shown_word x (w.start + at)
    → HoldsUnits us (record { word = word; wide = w.wide; lane = k - back; from = i - back; count = count })
held_window x w us i at k back count word p h l a b m n r s has is = let small = lane_small w.wide (w.offset + i) in let long = window_length x w us h in record {
  lanes = omega arith;
  within = omega arith;
  each = λ q t. let o : ℕ = w.offset + i in let t' : q < count = t in let e = same_word w.wide o back q (omega arith) (omega arith) in let j : ℕ = i - back + q in
      let o' : w.offset + j ≡ o - back + q = omega arith in
      let word_is : w.start + (w.offset + j) / lane_count w.wide ≡ w.start + at = ap (λ (y : ℕ). w.start + y / lane_count w.wide) o' ∙
      (ap (λ (y : ℕ). w.start + y) e.0 ∙ ap (λ (y : ℕ). w.start + y) (sym a)) in
      let lane_is : (w.offset + j) % lane_count w.wide ≡ k - back + q = ap (λ (y : ℕ). y % lane_count w.wide) o' ∙ (e.1 ∙ ap (λ (y : ℕ). y - back + q) (sym b)) in
      lane_by (shown_word x) w.wide w.start (w.offset + j) (w.start + at) (k - back + q) word word_is lane_is is
      ∙ window_unit x w us j p h (omega arith) (subst (λ (c : ℕ). HasKey x.own_words c ⊎ HasKey x.frozen c) (sym word_is) has);
}

only_lane : (us : List ℕ) (i word k : ℕ) → word ≡ get_or us i 0 → word < 65536 → k < 1 → lane_of true word (0 + k) ≡ get_or us (i + k) 0
unfolding lane_of
only_lane us i word zero e s m = let a : word / 1 % 65536 ≡ word = omega arith in let b : i ≡ i + 0 = omega arith in a ∙ (e ∙ ap (λ (n : ℕ). get_or us n 0) b)
only_lane us i word (suc k) e s m = absurd (omega arith)

pub holds_one : (us : List ℕ) (i word : ℕ) → word ≡ get_or us i 0 → word < 65536 → i < length us → HoldsUnits us (record { word = word; wide = true; lane = 0; from = i; count = 1 })
holds_one us i word e s l = record {
  lanes = omega arith;
  within = omega arith;
  each = λ k m. only_lane us i word k e s m;
}

pub holds_front : (xs ys : List ℕ) (h : HeldWord) → HoldsUnits xs h → HoldsUnits (xs ++ ys) h
holds_front xs ys h r = let n = length-append xs ys in let s = r.within in record {
  lanes = r.lanes;
  within = omega arith;
  each = λ k l. r.each k l ∙ sym (get_or_append_left xs ys 0 (h.from + k) (omega arith));
}

pub holds_back : (xs ys : List ℕ) (n : ℕ) (h : HeldWord) → length xs ≡ n → HoldsUnits ys h
    → HoldsUnits (xs ++ ys) (record { word = h.word; wide = h.wide; lane = h.lane; from = n + h.from; count = h.count })
holds_back xs ys n h e r = let m = length-append xs ys in let s = r.within in record {
  lanes = r.lanes;
  within = omega arith;
  each = λ k l. let back : n + h.from + k - n ≡ h.from + k = omega arith in r.each k l ∙
      (ap (λ (i : ℕ). get_or ys i 0) (sym back) ∙ sym (get_or-append_right xs ys n (n + h.from + k) 0 e (omega arith)));
}

-- the word of unit i shows the units from there on
pub shows_on : (x : View) (w : Window) (us : List ℕ) (i at word : ℕ) → IsPossible x → IsWindow x w us → i < w.len → at ≡ (w.offset + i) / lane_count w.wide
    → HasKey x.own_words (w.start + at) ⊎ HasKey x.frozen (w.start + at) → word ≡ shown_word x (w.start + at) → ShowsOn w us i word
shows_on x w us i at word p h l a has is = record {
  each = λ k m n. let k0 : ℕ = (w.offset + i) % lane_count w.wide in
      let held = held_window x w us i at k0 0 (k + 1) word p h l a refl (omega arith) (omega arith) (omega arith) (omega arith) has is in
      let e : k0 - 0 + k ≡ k0 + k = omega arith in
      let f : i - 0 + k ≡ i + k = omega arith in
      ap (lane_of w.wide word) (sym e) ∙ (held.each k (omega arith) ∙ ap (λ (j : ℕ). get_or us j 0) f);
}
