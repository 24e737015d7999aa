-- Units that are compared eight at once, by vectors.
use Rattle.std.proofs.Common.{◌≡◌, ℕ, ◌+◌, ◌-◌, ◌<◌, ◌≤◌, List, false, true, length, map, eqb, get_or, get_or-take, get_or-drop, ap, subst, sym, ◌∙◌, arith, ⊎_elim}
use Rattle.std.specs.Prelude.{◌↔◌, slice_index, take, drop, bit_and, not, nat_eq, IsTrue}
use Rattle.std.specs.Int.{bit_at}
use Rattle.std.specs.Simd.Lanes.{chunk, mask_l}
use Rattle.std.proofs.lemmas.Bool.{cases_lt}
use Rattle.std.proofs.lemmas.Bool.Decides.{nat_tests}
use Rattle.std.proofs.lemmas.List.{length-drop, length-take-le}
use Rattle.std.proofs.lemmas.Nat.Bits.{bit_at_and, bit_at-zero}
use Rattle.std.proofs.lemmas.Simd.{get_or-chunk, length-chunk}
use Rattle.js_units.proofs.LaneMarks.{marks_tell}
use Rattle.js_search.specs.declared.pairs.Pair.{Pair}
use Rattle.js_search.specs.Pairs.{HasPair}

-- eight units of a list from a place on
abbrev pub eight : List ℕ → ℕ → List ℕ
eight us at = chunk 0 8 (take (at + 8 - at) (drop at us))

module _ (us : List ℕ) (at : ℕ) (room : at + 8 ≤ length us) where
  pub eight_long : length (eight us at) ≡ 8
  eight_long =
      let d = length-drop at us in
      let n : at + 8 - at ≡ 8 = omega arith in
      let t = length-take-le (at + 8 - at) (drop at us) (omega arith) in
      length-chunk 0 8 (take (at + 8 - at) (drop at us)) (omega arith)

  eight_unit : (k : ℕ) → k < 8 → get_or (eight us at) k 0 ≡ get_or us (at + k) 0
  eight_unit k l =
      let n : at + 8 - at ≡ 8 = omega arith in
      get_or-chunk 0 8 (take (at + 8 - at) (drop at us)) k 0 l ∙ (get_or-take (at + 8 - at) (drop at us) (0 + k) 0 (omega arith)
      ∙ (get_or-drop at us (0 + k) 0 ∙ (let e : at + (0 + k) ≡ at + k = omega arith in ap (λ (j : ℕ). get_or us j 0) e)))

  -- the bits that mark those that are a unit
  pub eight_marks : (unit k : ℕ) → (bit_at (mask_l (map (λ x. eqb x unit) (eight us at))) k ≡ 1) ↔ ((k < 8) × (slice_index us (at + k) ≡ unit))
  eight_marks unit k =
      let t = marks_tell (eight us at) 8 unit k eight_long in (
        (λ h. let p = t.0 h in (p.0, sym (eight_unit k p.0) ∙ p.1)),
        (λ p. t.1 (p.0, eight_unit k p.0 ∙ p.1)),
      )

-- a bit that both numbers have
pub some_marked : (a b k : ℕ) → bit_at a k ≡ 1 → bit_at b k ≡ 1 → IsTrue (not (nat_eq (bit_and a b) 0))
some_marked a b k h i =
    let both = bit_at_and a b k in
    let some : bit_and a b ≡ 0 → ⊥ = λ e. (let z = ap (λ (n : ℕ). bit_at n k) e ∙ bit_at-zero k in omega arith) in
    grind (arith, nat_tests, some)

-- no pair at eight places behind those that were searched, or in front of them
module _ (us : List ℕ) (p : Pair) (at : ℕ) (none : (k : ℕ) → k < 8 → HasPair us p (at + k) → IsTrue false) where
  here : (k : ℕ) → at ≤ k → k < at + 8 → HasPair us p k → ⊥
  here k a b h = let e : k ≡ at + (k - at) = omega arith in let t : false ≡ true = none (k - at) (omega arith) (subst (λ (j : ℕ). HasPair us p j) e h) in cc

  pub none_eight : (from : ℕ) → ((k : ℕ) → from ≤ k → k < at → HasPair us p k → ⊥) → (k : ℕ) → from ≤ k → k < at + 8 → HasPair us p k → ⊥
  none_eight from old k a b h = ⊎_elim (λ (early : k < at). old k a early h) (λ (late : at ≤ k). here k late b h) (cases_lt k at)

  pub none_eight_down : (end : ℕ) → ((k : ℕ) → at + 8 ≤ k → k < end → HasPair us p k → ⊥) → (k : ℕ) → at ≤ k → k < end → HasPair us p k → ⊥
  none_eight_down end old k a b h = ⊎_elim (λ (early : k < at + 8). here k a early h) (λ (late : at + 8 ≤ k). old k late b h) (cases_lt k (at + 8))
