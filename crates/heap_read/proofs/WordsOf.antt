-- The content words of a window, one behind the other.
use Rattle.std.proofs.Common.{◌≡◌, ◌≢◌, ℕ, ◌+◌, ◌-◌, ◌*◌, ◌/◌, ◌%◌, ◌<◌, ◌≤◌, ⊎_elim, Bool, true, false, List, length, get_or, get_or-set_other, get_or-set_same, sym, ap, ◌∙◌, arith}
use Rattle.std.proofs.Math.ListN.{set}
use Rattle.std.proofs.lemmas.Bool.{cases_lt}
use Rattle.js_units.specs.Lanes.{lane_count, lane_of}
use Rattle.heap_read.specs.declared.string.Window.{Window}
use Rattle.heap_read.specs.Written.{ShowsFrom, ShowsOn}
use Rattle.heap_read.proofs.Holding.{lane_small}

-- the first unit of a word, and the lane of each of its units
lanes_by : (wide : Bool) (o i j f : ℕ) → (o % lane_count wide + i) / lane_count wide ≡ j → f ≡ j * lane_count wide - o % lane_count wide
    → (f ≤ i) × ((o + f) % lane_count wide + (i - f) ≡ (o % lane_count wide + i) % lane_count wide)
lanes_by true o i j f a b = (omega arith, omega arith)
lanes_by false o i j f a b = (omega arith, omega arith)

-- a word that was read from its first unit on shows each of its units
pub word_shows : (w : Window) (us : List ℕ) (j f word : ℕ) → f ≡ j * lane_count w.wide - w.offset % lane_count w.wide → ShowsOn w us f word
    → (i : ℕ) → i < w.len → (w.offset % lane_count w.wide + i) / lane_count w.wide ≡ j → lane_of w.wide word ((w.offset % lane_count w.wide + i) % lane_count w.wide) ≡ get_or us i 0
word_shows w us j f word e shows i l a =
    let p = lanes_by w.wide w.offset i j f a e in
    let low = p.0 in
    let small = lane_small w.wide (w.offset % lane_count w.wide + i) in
    let back : f + (i - f) ≡ i = omega arith in
    ap (lane_of w.wide word) (sym p.1) ∙ (shows.each (i - f) (omega (arith, p.1, small)) (omega arith) ∙ ap (λ (n : ℕ). get_or us n 0) back)

-- one more word after those that were copied
pub words_more : (wide : Bool) (lane : ℕ) (us : List ℕ) (at k word : ℕ) (words : List ℕ) → k < length words → ShowsFrom wide lane us at k words
    → ((i : ℕ) → i < length us → (lane + i) / lane_count wide ≡ at + k → lane_of wide word ((lane + i) % lane_count wide) ≡ get_or us i 0) → ShowsFrom wide lane us at (k + 1) (set words k word)
words_more wide lane us at k word words l was next = record {
  each = λ i a low high. let j : ℕ = (lane + i) / lane_count wide in let n : ℕ = (lane + i) % lane_count wide in ⊎_elim
      (λ (b : j < at + k). let ne : j - at ≢ k = omega arith in ap (λ (x : ℕ). lane_of wide x n) (get_or-set_other words k (j - at) word 0 ne) ∙ was.each i a low b)
      (λ (b : at + k ≤ j). let e : j ≡ at + k = omega arith in let e' : j - at ≡ k = omega arith in
      ap (λ (x : ℕ). lane_of wide (get_or (set words k word) x 0) n) e' ∙ (ap (λ (x : ℕ). lane_of wide x n) (get_or-set_same words k word 0 l) ∙ next i a e))
      (cases_lt j (at + k));
}

-- the word of the first unit, which the window has
pub first_number : (wide : Bool) (start o j first : ℕ) → first ≡ o / lane_count wide → start + first + j ≡ start + (o + (j * lane_count wide - o % lane_count wide)) / lane_count wide
first_number true start o j first e = omega arith
first_number false start o j first e = omega arith

pub first_within : (wide : Bool) (j o len : ℕ) → 0 < len → j * lane_count wide < o % lane_count wide + len → j * lane_count wide - o % lane_count wide < len
first_within true j o len a h = omega arith
first_within false j o len a h = omega arith
