-- Own content words that are filled with units, lane by lane.
use Rattle.std.specs.Prelude.{◌≡◌, ℕ, ◌+◌, ◌<◌, ◌≤◌, Bool, unwrap_or}
use Rattle.std.specs.FinMap.{FinMap, get}
use Rattle.std.specs.Ordering.{nat_cmp}
use Rattle.js_units.specs.Lanes.{lane_count, lane_of}
use Rattle.heap_rule.specs.Contents.{lane_in}

-- a content word as the agent stored it; 0 where it is not its own
abbrev pub own_word : FinMap nat_cmp ℕ → ℕ → ℕ
own_word m c = unwrap_or (get m c) 0

-- of the run from content word `start` on, the n lanes from `at` on became the units, and all others stayed
pub record IsFilled (wide : Bool) (start : ℕ) (before after : ℕ → ℕ) (at n : ℕ) (unit : ℕ → ℕ) : Type 0 where
  pub inside : (k : ℕ) → k < n → lane_in after wide start (at + k) ≡ unit k
  pub below : (o : ℕ) → o < at → lane_in after wide start o ≡ lane_in before wide start o
  pub above : (o : ℕ) → at + n ≤ o → lane_in after wide start o ≡ lane_in before wide start o

-- of one word, `count` lanes from `low` on became the units, and all others stayed
pub record IsPlaced (wide : Bool) (before after : ℕ) (low count : ℕ) (unit : ℕ → ℕ) : Type 0 where
  pub inside : (k : ℕ) → k < count → lane_of wide after (low + k) ≡ unit k
  pub below : (q : ℕ) → q < low → lane_of wide after q ≡ lane_of wide before q
  pub above : (q : ℕ) → q < lane_count wide → low + count ≤ q → lane_of wide after q ≡ lane_of wide before q
