-- Helpers: no public contract reaches these definitions.
-- Where two units of a needle occur in a list of units.
use Rattle.std.specs.Prelude.{◌≡◌, ℕ, ◌+◌, ◌<◌, ◌≤◌, List, length, slice_index, Option, Some, None}
use Rattle.js_search.specs.declared.pairs.Pair.{Pair}

-- the two units are those of w
pub record IsPairOf (w : List ℕ) (p : Pair) : Type 0 where
  pub near : p.apart ≤ 31
  pub inside : p.apart < length w
  pub first : p.first ≡ slice_index w 0
  pub other : p.other ≡ slice_index w p.apart

-- both units occur in u at k
pub record HasPair (u : List ℕ) (p : Pair) (k : ℕ) : Type 0 where
  pub first : slice_index u k ≡ p.first
  pub other : slice_index u (k + p.apart) ≡ p.other

-- no pair occurs from `from` on and before the place that was found, or before the end
abbrev pub IsFirstPair : List ℕ → Pair → ℕ → Option ℕ → Type 0
IsFirstPair u p from None = (k : ℕ) → from ≤ k → k + p.apart < length u → HasPair u p k → ⊥
IsFirstPair u p from (Some at) =
    (from ≤ at) × (at + p.apart < length u) × ((k : ℕ) → from ≤ k → k < at → HasPair u p k → ⊥)

-- no pair occurs before `end` and behind the place that was found, or anywhere
abbrev pub IsLastPair : List ℕ → Pair → ℕ → Option ℕ → Type 0
IsLastPair u p end None = (k : ℕ) → k < end → HasPair u p k → ⊥
IsLastPair u p end (Some at) = (at < end) × ((k : ℕ) → at < k → k < end → HasPair u p k → ⊥)
