use Rattle.std.proofs.Common.{ℕ, ◌-◌, ◌<◌, ◌≤◌}
use Rattle.js_search.specs.Pairs.{HasPair}
use Rattle.js_search.proofs.pairs.first_in.Given as goal

abbrev pub invariant-loop-start : goal.invariant-loop-start
invariant-loop-start l = record {
  low : l.from ≤ l.start;
  high : l.start ≤ l.end;
  none : (k : ℕ) → l.from ≤ k → k < l.start → HasPair l.units l.pair k → ⊥;
}

abbrev pub decreases-loop-start : goal.decreases-loop-start
decreases-loop-start l = l.end - l.start

abbrev pub invariant-loop-k : goal.invariant-loop-k
invariant-loop-k l = (k : ℕ) → l.from ≤ k → k < l.k → HasPair l.units l.pair k → ⊥
