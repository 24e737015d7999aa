-- The units of one word, and those of two words in a row.
use Rattle.std.proofs.Common.{◌≡◌, ℕ, zero, suc, ◌+◌, ◌/◌, ◌%◌, ◌<◌, ◌≤◌, false, List, ◌∷◌, ◌++◌, refl, ap, ◌∙◌, arith}
use Rattle.js_units.specs.Lanes.{lane_of}
use Rattle.heap_rule.specs.Contents.{lane_in, span}
use Rattle.test_heap.specs.Ropes.{bytes_of}

module _ (f : ℕ → ℕ) (start : ℕ) where
  low_lane : (k : ℕ) → k < 8 → lane_in f false start k ≡ lane_in (λ _. f start) false 0 k
  unfolding lane_in
  low_lane k l = let e : start + k / 8 ≡ start = omega arith in ap (λ (c : ℕ). lane_of false (f c) (k % 8)) e

  pub low_span : (o n : ℕ) → o + n ≤ 8 → span f false start o n ≡ span (λ _. f start) false 0 o n
  low_span o zero l = refl
  low_span o (suc n) l = λ i. low_lane o (omega arith) i ∷ low_span (suc o) n (omega arith) i

  high_lane : (k : ℕ) → k < 8 → lane_in f false start (8 + k) ≡ lane_in (λ _. f (start + 1)) false 0 k
  unfolding lane_in
  high_lane k l = let e : start + (8 + k) / 8 ≡ start + 1 = omega arith in let r : (8 + k) % 8 ≡ k % 8 = omega arith in λ i. lane_of false (f (e i)) (r i)

  high_span : (o n : ℕ) → o + n ≤ 8 → span f false start (8 + o) n ≡ span (λ _. f (start + 1)) false 0 o n
  high_span o zero l = refl
  high_span o (suc n) l = let e : suc (8 + o) ≡ 8 + suc o = omega arith in λ i. high_lane o (omega arith) i ∷ (ap (λ (k : ℕ). span f false start k n) e ∙ high_span (suc o) n (omega arith)) i

  more : (o m n : ℕ) → span f false start o (m + n) ≡ span f false start o m ++ span f false start (o + m) n
  more o zero n = let none : 0 + n ≡ n = omega arith in let here : o ≡ o + 0 = omega arith in λ i. span f false start (here i) (none i)
  more o (suc m) n = let s : suc m + n ≡ suc (m + n) = omega arith in let e : suc o + m ≡ o + suc m = omega arith in ap (λ (k : ℕ). span f false start o k) s
      ∙ ap (λ (us : List ℕ). lane_in f false start o ∷ us) (more (suc o) m n ∙ ap (λ (k : ℕ). span f false start (suc o) m ++ span f false start k n) e)

  pub two_words : (a b : ℕ) → f start ≡ a → f (start + 1) ≡ b → span f false start 0 16 ≡ bytes_of a ++ bytes_of b
  two_words a b p q = more 0 8 8 ∙ (λ i. (low_span 0 8 (omega arith) ∙ ap bytes_of p) i ++ (high_span 0 8 (omega arith) ∙ ap bytes_of q) i)
