use Rattle.std.proofs.Common.{◌≡◌, ◌-◌, ◌≤◌, drop}
use Rattle.std.specs.Prelude.{None}
use Rattle.js_store.specs.State.{text}
use Rattle.js_store.specs.Faults.{StoreStep}
use Rattle.js_search.specs.Order.{units_cmp}
use Rattle.js_search.proofs.order.compare_blocks.Given as goal

abbrev pub invariant-loop-done : goal.invariant-loop-done
invariant-loop-done g l =
    let state = g.S.Strings.state in
    let left = text (state l.fn.store) (g.S.Strings.number l.a) in
    let right = text (state l.fn.store) (g.S.Strings.number l.b) in
    record {
      low : l.from ≤ l.done;
      most : l.done ≤ l.size;
      rest : units_cmp (drop l.done left) (drop l.done right) ≡ units_cmp (drop l.from left) (drop l.from right);
      step : StoreStep (state l.fn.store) (state l.store) None 0 0;
      history : (state l.store).history ≡ (state l.fn.store).history;
    }

abbrev pub decreases-loop-done : goal.decreases-loop-done
decreases-loop-done g l = l.size - l.done
