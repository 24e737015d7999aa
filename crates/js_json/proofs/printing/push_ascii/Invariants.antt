use Rattle.std.proofs.Common.{◌≡◌, ◌+◌, ◌-◌, ◌≤◌, ◌++◌, drop, length, take}
use Rattle.std.specs.Prelude.{None}
use Rattle.js_units.specs.Text.{utf8}
use Rattle.js_store.specs.State.{text}
use Rattle.js_store.specs.Faults.{StoreStep}
use Rattle.js_json.proofs.printing.push_ascii.Given as goal

-- the units in front were added, and there is room for those that are left
abbrev pub invariant-loop-done : goal.invariant-loop-done
invariant-loop-done g l =
    let state = g.S.Strings.state in
    let units = text (state l.fn.store) (g.S.Strings.number l.s) in
    record {
      most : l.done ≤ l.len;
      added : l.line.items ++ utf8 (drop l.done units) ≡ l.fn.line.items ++ utf8 units;
      kept : take (length l.fn.line.items) l.line.items ≡ l.fn.line.items;
      room : l.line.len + l.len ≤ l.line.cap + l.done;
      step : StoreStep (state l.fn.store) (state l.store) None 0 0;
      history : (state l.store).history ≡ (state l.fn.store).history;
    }

abbrev pub decreases-loop-done : goal.decreases-loop-done
decreases-loop-done g l = l.len - l.done
