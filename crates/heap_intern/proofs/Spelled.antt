-- The lanes of a window that is compared with the units that bytes spell, piece after piece.
use Rattle.std.proofs.Common.{◌≡◌, ◌∙◌, ℕ, ◌+◌, ◌-◌, ◌/◌, ◌<◌, ◌≤◌, ⊎_elim, Bool, true, false, List, length, get_or, ap, subst, sym, arith}
use Rattle.std.proofs.lemmas.Bool.{cases_lt}
use Rattle.js_units.specs.Lanes.{lane_count, words_over}
use Rattle.heap_rule.specs.declared.view.View.{View}
use Rattle.heap_table.specs.Known.{KeepsKnown}
use Rattle.heap_read.specs.declared.string.Window.{Window}
use Rattle.heap_read.specs.Frozen.{HasLane, HasOther, HasUnits}
use Rattle.heap_read.specs.Windows.{IsFrozenWindow}
use Rattle.heap_read.proofs.Freezing.{lane_kept}

-- the n units of a window from number i on
abbrev pub part_of : Window → ℕ → ℕ → Window
part_of w i n = record { wide = w.wide; start = w.start; offset = w.offset + i; len = n }

front_most : (wide : Bool) (o i : ℕ) → o / lane_count wide ≤ (o + i) / lane_count wide
front_most true o i = omega arith
front_most false o i = omega arith

words_most : (wide : Bool) (m n : ℕ) → m ≤ n → words_over wide m ≤ words_over wide n
words_most true m n l = omega arith
words_most false m n l = omega arith

pub part_frozen : (v : View) (w : Window) (i n : ℕ) → i + n ≤ w.len → IsFrozenWindow v w → IsFrozenWindow v (part_of w i n)
part_frozen v w i n l h c lo hi = let a = front_most w.wide w.offset i in let b = words_most w.wide (w.offset + i + n) (w.offset + w.len) (omega arith) in
    h c (omega (arith, a, lo)) (omega (arith, b, hi))

module _ (u x : View) (w : Window) (us piece : List ℕ) (i n : ℕ) (long : length piece ≡ n) (same : (k : ℕ) → k < n → get_or piece k 0 ≡ get_or us (i + k) 0) where
  -- those that were compared before, and those of one piece more
  pub piece_on : KeepsKnown u x → ((k : ℕ) → k < i → HasLane u w.wide w.start (w.offset + k) (get_or us k 0)) → HasUnits x (part_of w i n) piece
      → (k : ℕ) → k < i + n → HasLane x w.wide w.start (w.offset + k) (get_or us k 0)
  piece_on kept old h k l = ⊎_elim
      (λ (m : k < i). lane_kept u x kept w.wide w.start (w.offset + k) (get_or us k 0) (old k m))
      (λ (m : i ≤ k). let e : i + (k - i) ≡ k = omega arith in let f : w.offset + i + (k - i) ≡ w.offset + k = omega arith in
      let is : get_or piece (k - i) 0 ≡ get_or us k 0 = same (k - i) (omega arith) ∙ ap (λ (j : ℕ). get_or us j 0) e in
      subst (λ (o : ℕ). HasLane x w.wide w.start o (get_or us k 0)) f
      (subst (λ (y : ℕ). HasLane x w.wide w.start (w.offset + i + (k - i)) y) is (h.each (k - i) (omega (arith, long)))))
      (cases_lt k i)

  -- a unit that is another
  pub piece_other : i + n ≤ length us → HasOther x (part_of w i n) piece → HasOther x w us
  piece_other within h = let l : h.at < n = omega (arith, h.inside, long) in let f : w.offset + i + h.at ≡ w.offset + (i + h.at) = omega arith in record {
    at = i + h.at;
    inside = omega (arith, l, within);
    unit = h.unit;
    lane = subst (λ (o : ℕ). HasLane x w.wide w.start o h.unit) f h.lane;
    other = λ e. h.other (e ∙ sym (same h.at l));
  }
