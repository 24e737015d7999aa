use Rattle.std.proofs.Common.{◌≡◌, ℕ, ◌<◌, ◌≤◌}
use Rattle.std.specs.Prelude.{None}
use Rattle.js_store.specs.State.{text}
use Rattle.js_store.specs.Faults.{StoreStep}
use Rattle.js_search.specs.Blocks.{IsPart}
use Rattle.js_search.specs.Pairs.{HasPair}
use Rattle.js_search.proofs.pairs.previous_pair.Given as goal

abbrev pub invariant-loop-left : goal.invariant-loop-left
invariant-loop-left g l =
    let state = g.S.Strings.state in
    let hay = text (state l.fn.store) (g.S.Strings.number l.hay) in
    record {
      high : l.left ≤ l.end;
      none : (k : ℕ) → l.left ≤ k → k < l.end → HasPair hay l.pair k → ⊥;
      part : IsPart hay l.block;
      step : StoreStep (state l.fn.store) (state l.store) None 0 0;
      history : (state l.store).history ≡ (state l.fn.store).history;
    }

abbrev pub decreases-loop-left : goal.decreases-loop-left
decreases-loop-left g l = l.left
