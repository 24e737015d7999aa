use Rattle.std.proofs.Common.{◌≡◌, ℕ, ◌+◌, ◌-◌, ◌<◌, ◌≤◌, get_or}
use Rattle.std.specs.Prelude.{None}
use Rattle.js_store.specs.State.{text}
use Rattle.js_store.specs.Faults.{StoreStep}
use Rattle.js_search.proofs.runs.same_behind.Given as goal

abbrev pub invariant-loop-done : goal.invariant-loop-done
invariant-loop-done g l =
    let state = g.S.Strings.state in
    let number = g.S.Strings.number in
    record {
      low : l.from ≤ l.done;
      high : l.done ≤ l.size;
      some : 0 < l.most;
      most : l.most ≤ 256;
      same : (k : ℕ) → l.from ≤ k → k < l.done → get_or (text (state l.fn.store) (number l.hay)) (l.place + k) 0 ≡ get_or (text (state l.fn.store) (number l.needle)) k 0;
      step : StoreStep (state l.fn.store) (state l.store) None 0 0;
      history : (state l.store).history ≡ (state l.fn.store).history;
    }

abbrev pub decreases-loop-done : goal.decreases-loop-done
decreases-loop-done g l = l.size - l.done
