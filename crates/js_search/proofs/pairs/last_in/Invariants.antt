use Rattle.std.proofs.Common.{ℕ, ◌<◌, ◌≤◌}
use Rattle.js_search.specs.Pairs.{HasPair}
use Rattle.js_search.proofs.pairs.last_in.Given as goal

abbrev pub invariant-loop-left : goal.invariant-loop-left
invariant-loop-left l = record {
  high : l.left ≤ l.end;
  none : (k : ℕ) → l.left ≤ k → k < l.end → HasPair l.units l.pair k → ⊥;
}

abbrev pub decreases-loop-left : goal.decreases-loop-left
decreases-loop-left l = l.left

abbrev pub invariant-loop-k : goal.invariant-loop-k
invariant-loop-k l = record {
  high : l.k ≤ l.end;
  none : (k : ℕ) → l.k ≤ k → k < l.end → HasPair l.units l.pair k → ⊥;
}
