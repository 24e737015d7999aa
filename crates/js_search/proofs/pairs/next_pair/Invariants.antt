use Rattle.std.proofs.Common.{◌≡◌, ℕ, ◌-◌, ◌<◌, ◌≤◌}
use Rattle.std.specs.Prelude.{None}
use Rattle.js_store.specs.State.{text}
use Rattle.js_store.specs.Faults.{StoreStep}
use Rattle.js_search.specs.Blocks.{IsPart}
use Rattle.js_search.specs.Pairs.{HasPair}
use Rattle.js_search.proofs.pairs.next_pair.Given as goal

abbrev pub invariant-loop-place : goal.invariant-loop-place
invariant-loop-place g l =
    let state = g.S.Strings.state in
    let hay = text (state l.fn.store) (g.S.Strings.number l.hay) in
    record {
      low : l.from ≤ l.place;
      high : l.place ≤ l.len;
      none : (k : ℕ) → l.from ≤ k → k < l.place → HasPair hay l.pair k → ⊥;
      part : IsPart hay l.block;
      step : StoreStep (state l.fn.store) (state l.store) None 0 0;
      history : (state l.store).history ≡ (state l.fn.store).history;
    }

abbrev pub decreases-loop-place : goal.decreases-loop-place
decreases-loop-place g l = l.len - l.place
