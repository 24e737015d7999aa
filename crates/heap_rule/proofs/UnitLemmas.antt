-- The units of an id, one header at a time, and what keeps them.
use Rattle.std.proofs.Common.{◌≡◌, ℕ, zero, suc, ◌+◌, ◌/◌, ◌%◌, ◌<◌, ◌≤◌, Bool, true, false, List, ◌∷◌, ◌++◌, sym, refl, ap, ◌∙◌, arith}
use Rattle.js_units.specs.Lanes.{lane_count, lane_of, words_over}
use Rattle.heap_rule.specs.Contents.{Shape, blank, whole, joins, units_by, units_within, units_in, span, lane_in}

-- the ids that a shape joins are below n
abbrev pub JoinsBelow : ℕ → Shape → Type 0
JoinsBelow n blank = Unit {0}
JoinsBelow n (whole us) = Unit {0}
JoinsBelow n (joins left right) = (left < n) × (right < n)

-- the ids that a shape joins have the property
abbrev pub EachJoined : (ℕ → Type 0) → Shape → Type 0
EachJoined P blank = Unit {0}
EachJoined P (whole us) = Unit {0}
EachJoined P (joins left right) = P left × P right

by_same : (f g : ℕ → List ℕ) (s : Shape) → EachJoined (λ j. f j ≡ g j) s → units_by f s ≡ units_by g s
by_same f g blank h = refl
by_same f g (whole us) h = refl
by_same f g (joins left right) h = λ i. h.0 i ++ h.1 i

each_joined : (P Q : ℕ → Type 0) (s : Shape) → ((j : ℕ) → P j → Q j) → EachJoined P s → EachJoined Q s
each_joined P Q blank f h = tt
each_joined P Q (whole us) f h = tt
each_joined P Q (joins left right) f h = (f left h.0, f right h.1)

both_joined : (P Q : ℕ → Type 0) (s : Shape) → EachJoined P s → EachJoined Q s → EachJoined (λ j. P j × Q j) s
both_joined P Q blank h k = tt
both_joined P Q (whole us) h k = tt
both_joined P Q (joins left right) h k = ((h.0, k.0), (h.1, k.1))

joins_below : (n : ℕ) (s : Shape) → JoinsBelow n s → EachJoined (λ j. j < n) s
joins_below n blank h = tt
joins_below n (whole us) h = tt
joins_below n (joins left right) h = h

-- Two heaps in which the ids with P have the same shapes, and join only ids with P
module _ (F G : ℕ → Shape) (P : ℕ → Type 0) (low : (i : ℕ) → JoinsBelow i (F i)) (same : (i : ℕ) → P i → F i ≡ G i) (closed : (i : ℕ) → P i → EachJoined P (F i)) where
  pub within_same : (m n i : ℕ) → i < m → i < n → P i → units_within F m i ≡ units_within G n i
  unfolding units_within
  within_same zero n i h k p = absurd (omega arith)
  within_same (suc m) zero i h k p = absurd (omega arith)
  within_same (suc m) (suc n) i h k p =
      by_same (λ j. units_within F m j) (λ j. units_within G n j) (F i)
      (each_joined (λ j. P j × (j < i)) _ (F i) (λ j q. within_same m n j (let l = q.1 in omega arith) (let l = q.1 in omega arith) q.0)
      (both_joined P (λ j. j < i) (F i) (closed i p) (joins_below i (F i) (low i))))
      ∙ ap (units_by (λ j. units_within G n j)) (same i p)

  pub units_same : (i : ℕ) → P i → units_in F i ≡ units_in G i
  unfolding units_in
  units_same i p = within_same (suc i) (suc i) i (omega arith) (omega arith) p

-- the equation of the recursion
pub units_step : (F : ℕ → Shape) → ((i : ℕ) → JoinsBelow i (F i)) → (i : ℕ) → units_in F i ≡ units_by (units_in F) (F i)
unfolding units_in units_within
units_step F low i = by_same (λ j. units_within F i j) (units_in F) (F i)
    (each_joined (λ j. j < i) _ (F i) (λ j l. within_same F F (λ _. Unit {0}) low (λ _ _. refl)
    (λ k _. each_joined (λ (x : ℕ). x < k) (λ _. Unit {0}) (F k) (λ _ _. tt) (joins_below k (F k) (low k))) i (suc j) j l (omega arith) tt)
    (joins_below i (F i) (low i)))

-- a span reads the words from its start on
module _ (f g : ℕ → ℕ) (wide : Bool) (start : ℕ) where
  pub lane_same : (o : ℕ) → f (start + o / lane_count wide) ≡ g (start + o / lane_count wide) → lane_in f wide start o ≡ lane_in g wide start o
  unfolding lane_in
  lane_same o h = ap (λ (x : ℕ). lane_of wide x (o % lane_count wide)) h

  pub span_same : (o n : ℕ) → ((k : ℕ) → k < o + n → f (start + k / lane_count wide) ≡ g (start + k / lane_count wide)) → span f wide start o n ≡ span g wide start o n
  span_same o zero h = refl
  span_same o (suc n) h = λ i. lane_same o (h o (omega arith)) i ∷ span_same (suc o) n (λ k l. h k (omega arith)) i

-- each lane below n lies in the words over n
pub lane_word : (wide : Bool) (k n : ℕ) → k < n → k / lane_count wide < words_over wide n
lane_word true k n h = omega arith
lane_word false k n h = omega arith

-- words that agree over the whole of a Flat give the same span
pub flat_same : (f g : ℕ → ℕ) (wide : Bool) (start n : ℕ) → ((c : ℕ) → start ≤ c → c < start + words_over wide n → f c ≡ g c) → span f wide start 0 n ≡ span g wide start 0 n
flat_same f g wide start n h = span_same f g wide start 0 n (λ k l. let b : k / lane_count wide < words_over wide n = lane_word wide k n
    (omega arith) in h (start + k / lane_count wide) (omega arith) (omega arith))

-- lists that meet the equation of the recursion at the ids with P are the units of these ids
module _ (F : ℕ → Shape) (g : ℕ → List ℕ) (P : ℕ → Type 0) (low : (i : ℕ) → JoinsBelow i (F i)) (closed : (i : ℕ) → P i → EachJoined P (F i)) (solves : (i : ℕ) → P i → g i ≡ units_by g (F i)) where
  unique_within : (m i : ℕ) → i < m → P i → units_within F m i ≡ g i
  unfolding units_within
  unique_within zero i h p = absurd (omega arith)
  unique_within (suc m) i h p = by_same (λ j. units_within F m j) g (F i)
      (each_joined (λ j. P j × (j < i)) _ (F i) (λ j q. unique_within m j (let l = q.1 in omega arith) q.0) (both_joined P (λ j. j < i) (F i) (closed i p) (joins_below i (F i) (low i))))
      ∙ sym (solves i p)

  pub units_unique : (i : ℕ) → P i → units_in F i ≡ g i
  unfolding units_in
  units_unique i p = unique_within (suc i) i (omega arith) p
