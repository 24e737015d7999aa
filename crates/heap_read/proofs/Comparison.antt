-- Two windows whose units are compared: of the one they are known, of the other the lanes of words that are frozen.
use Rattle.std.proofs.Common.{◌≡◌, ℕ, ◌+◌, ◌-◌, ◌/◌, ◌<◌, ◌≤◌, inl, inr, ⊎_elim, List, get_or, sym, ap, ◌∙◌, subst, arith}
use Rattle.std.proofs.lemmas.Bool.{cases_lt}
use Rattle.js_units.specs.Lanes.{lane_count, lane_of}
use Rattle.js_header.specs.declared.form.Form.TheVariants.{Flat}
use Rattle.heap_rule.specs.declared.view.View.{View}
use Rattle.heap_rule.specs.Maps.{HasKey}
use Rattle.heap_rule.specs.Views.{IsFrozen}
use Rattle.heap_table.specs.Known.{KeepsKnown}
use Rattle.heap_read.specs.declared.source.HeldWord.{HeldWord}
use Rattle.heap_read.specs.declared.string.Window.{Window}
use Rattle.heap_read.specs.Frozen.{HasLane, HasOther, IsWordHeld}
use Rattle.heap_read.specs.Reads.{HoldsForms}
use Rattle.heap_read.specs.Windows.{IsFrozenWindow}
use Rattle.heap_read.specs.Written.{HasAt, HoldsUnits, held_unit}
use Rattle.heap_read.proofs.Freezing.{lane_key, lane_kept, word_kept}
use Rattle.heap_read.proofs.Showing.{length_kept}

-- what is known to be frozen is so later
pub frozen_stays : (v u : View) → HoldsForms v u → KeepsKnown v u → (c : ℕ) → IsFrozen v c → IsFrozen u c
frozen_stays v u holds k c h = ⊎_elim
    (λ (a : HasKey v.frozen c). inl (word_kept v u k c a))
    (λ t. inr (t.0, t.1, t.2, t.3, t.4, holds t.0 (Flat t.1 t.2 t.3) t.5, length_kept v u holds k t.0 t.4 t.6, t.7, t.8))
    h

pub frozen_window_stays : (v u : View) (w : Window) → HoldsForms v u → KeepsKnown v u → IsFrozenWindow v w → IsFrozenWindow u w
frozen_window_stays v u w holds k f c lo hi = frozen_stays v u holds k c (f c lo hi)

pub unit_held_is : (us : List ℕ) (h : HeldWord) (k : ℕ) → HoldsUnits us h → h.from ≤ k → k < h.from + h.count → held_unit h k ≡ get_or us k 0
unit_held_is us h k r l m = let e : h.from + (k - h.from) ≡ k = omega arith in r.each (k - h.from) (omega arith) ∙ ap (λ (j : ℕ). get_or us j 0) e

pub lane_held : (v : View) (w : Window) (h : HeldWord) (k : ℕ) → IsWordHeld v w h → h.from ≤ k → k < h.from + h.count → HasLane v w.wide w.start (w.offset + k) (held_unit h k)
lane_held v w h k r l m = let e : h.from + (k - h.from) ≡ k = omega arith in
    subst (λ (j : ℕ). HasLane v w.wide w.start (w.offset + j) (held_unit h k)) e (r.each (k - h.from) (omega arith))

-- two words that are one, with unit i in one lane
pub alike : (g h : HeldWord) (i k : ℕ) → g.from ≤ i → h.from ≤ i → g.word ≡ h.word → g.wide ≡ h.wide → g.lane + (i - g.from) ≡ h.lane + (i - h.from) → held_unit g (i + k) ≡ held_unit h (i + k)
alike g h i k l m a b e = let f : g.lane + (i + k - g.from) ≡ h.lane + (i + k - h.from) = omega arith in
    λ n. lane_of (b n) (a n) (f n)

module _ (u y : View) (b : Window) (us : List ℕ) (left right : HeldWord)
    (i count : ℕ) (kept : KeepsKnown u y) (hl : HoldsUnits us left) (hr : IsWordHeld y b right) (al : HasAt left i count) (ar : HasAt right i count) where
  -- what was compared before, and the words
  pub compared_on : ((k : ℕ) → k < i → HasLane u b.wide b.start (b.offset + k) (get_or us k 0)) → ((k : ℕ) → k < count → held_unit left (i + k) ≡ held_unit right (i + k))
      → (k : ℕ) → k < i + count → HasLane y b.wide b.start (b.offset + k) (get_or us k 0)
  compared_on old same k l = let a = al.low in let a' = al.high in let c = ar.low in let c' = ar.high in ⊎_elim
      (λ (m : k < i). lane_kept u y kept b.wide b.start (b.offset + k) (get_or us k 0) (old k m))
      (λ (m : i ≤ k). let e : i + (k - i) ≡ k = omega arith in
      let two : held_unit left k ≡ held_unit right k = subst (λ (j : ℕ). held_unit left j ≡ held_unit right j) e (same (k - i) (omega arith)) in
      let is : held_unit right k ≡ get_or us k 0 = sym two ∙ unit_held_is us left k hl (omega arith) (omega arith) in
      subst (λ (x : ℕ). HasLane y b.wide b.start (b.offset + k) x) is (lane_held y b right k hr (omega arith) (omega arith)))
      (cases_lt k i)

  -- a unit that is another
  pub compared_other : (k : ℕ) → k < count → (held_unit left (i + k) ≡ held_unit right (i + k) → ⊥) → HasOther y b us
  compared_other k l ne = let a = al.low in let a' = al.high in let c = ar.low in let c' = ar.high in let w = hl.within in record {
    at = i + k;
    inside = omega arith;
    unit = held_unit right (i + k);
    lane = lane_held y b right (i + k) hr (omega arith) (omega arith);
    other = λ e. ne (unit_held_is us left (i + k) hl (omega arith) (omega arith) ∙ sym e);
  }

-- all words up to those of the word that is held were loaded
pub words_on : (u x : View) (w : Window) (h : HeldWord) (i : ℕ) → KeepsKnown u x → IsWordHeld x w h → h.from ≤ i → i < h.from + h.count
    → ((k : ℕ) → k < i → HasKey u.frozen (w.start + (w.offset + k) / lane_count w.wide)) → (k : ℕ) → k < i + (h.count - (i - h.from)) → HasKey x.frozen (w.start + (w.offset + k) / lane_count w.wide)
words_on u x w h i kept r lo hi old k l = ⊎_elim
    (λ (m : k < i). word_kept u x kept (w.start + (w.offset + k) / lane_count w.wide) (old k m))
    (λ (m : i ≤ k). lane_key x w.wide w.start (w.offset + k) (held_unit h k) (lane_held x w h k r (omega arith) (omega arith)))
    (cases_lt k i)
