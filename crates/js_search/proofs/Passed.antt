-- Places that a search for pairs has passed: the needle doesn't stand there.
use Rattle.std.proofs.Common.{◌≡◌, ℕ, ◌+◌, ◌<◌, ◌≤◌, List, length, ap, subst, sym, arith, ⊎_elim}
use Rattle.std.specs.Prelude.{Option, Some, None}
use Rattle.std.proofs.lemmas.Bool.{cases_lt}
use Rattle.js_search.specs.declared.pairs.Pair.{Pair}
use Rattle.js_search.specs.Pairs.{HasPair, IsPairOf, IsFirstPair, IsLastPair}
use Rattle.js_search.specs.Places.{IsFirst, IsLast, IsPartAt}
use Rattle.js_search.proofs.Pairing.{pair_there}

module _ (u v w : List ℕ) (p : Pair) (is : IsPairOf w p) (same : v ≡ u) where
  there : (k : ℕ) → IsPartAt u w k → HasPair v p k
  there k s = subst (λ (x : List ℕ). HasPair x p k) (sym same) (pair_there u w p k is s)

  -- from the back no pair is left
  pub last_none : (most end : ℕ) → ((k : ℕ) → k ≤ most → end ≤ k → IsPartAt u w k → ⊥) → IsLastPair v p end None → IsLast u w most None
  last_none most end old none = λ k l s. ⊎_elim
      (λ (early : k < end). none k early (there k s))
      (λ (late : end ≤ k). old k l late s)
      (cases_lt k end)

  module _ (from place : ℕ) (old : (k : ℕ) → from ≤ k → k < place → IsPartAt u w k → ⊥) where
    -- from the front none is left
    pub first_none : IsFirstPair v p place None → IsFirst u w from None
    first_none none = λ k l s. ⊎_elim
        (λ (early : k < place). old k l early s)
        (λ (late : place ≤ k).
        let inside = is.inside in
        let long : length v ≡ length u = ap length same in
        let fits = s.0 in
        none k late (omega arith) (there k s))
        (cases_lt k place)

    module _ (at : ℕ) (low : from ≤ place) (high : place ≤ at) (none : (k : ℕ) → place ≤ k → k < at → HasPair v p k → ⊥) where
      none_before : (k : ℕ) → from ≤ k → k < at → IsPartAt u w k → ⊥
      none_before k l b s = ⊎_elim
          (λ (early : k < place). old k l early s)
          (λ (late : place ≤ k). none k late b (there k s))
          (cases_lt k place)

      -- behind the next one is no room
      pub first_past : length u < at + length w → IsFirst u w from None
      first_past past = λ k l s. ⊎_elim
          (λ (early : k < at). none_before k l early s)
          (λ (late : at ≤ k). let fits = s.0 in omega arith)
          (cases_lt k at)

      -- the needle stands at the next one
      pub first_there : IsPartAt u w at → IsFirst u w from (Some at)
      first_there s = (omega arith, s, λ j l t. let not : j < at → ⊥ = λ b. none_before j l b t in omega (arith, not))

      -- or it doesn't
      pub none_next : (IsPartAt u w at → ⊥) → (k : ℕ) → from ≤ k → k < at + 1 → IsPartAt u w k → ⊥
      none_next not k l b s = ⊎_elim
          (λ (early : k < at). none_before k l early s)
          (λ (late : at ≤ k). let e : k ≡ at = omega arith in not (subst (λ (j : ℕ). IsPartAt u w j) e s))
          (cases_lt k at)

-- what is left was searched otherwise
pub first_among : (u w : List ℕ) (from place : ℕ) → from ≤ place → ((k : ℕ) → from ≤ k → k < place → IsPartAt u w k → ⊥)
    → (r : Option ℕ) → IsFirst u w place r → IsFirst u w from r
first_among u w from place low old None h = λ k l s. ⊎_elim (λ (early : k < place). old k l early s) (λ (late : place ≤ k). h k late s) (cases_lt k place)
first_among u w from place low old (Some at) h = (
  omega (arith, h.0),
  h.1,
  λ j l s. ⊎_elim (λ (early : j < place). absurd (old j l early s)) (λ (late : place ≤ j). h.2 j late s) (cases_lt j place),
)
