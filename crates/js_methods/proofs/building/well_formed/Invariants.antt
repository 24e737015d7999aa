use Rattle.std.proofs.Common.{◌≡◌, ◌++◌, drop}
use Rattle.std.specs.Prelude.{None}
use Rattle.js_units.specs.Text.{well}
use Rattle.js_store.specs.State.{text}
use Rattle.js_store.specs.Faults.{StoreStep}
use Rattle.js_methods.specs.Waiting.{IsLeadOrNone, well_after}
use Rattle.js_methods.proofs.building.well_formed.Given as goal

abbrev pub invariant-loop-i : goal.invariant-loop-i
invariant-loop-i g l =
    let state = g.S.Strings.state in
    let units = text (state l.fn.store) (g.S.Strings.number l.s) in
    record {
      made : well units ≡ l.units ++ well_after l.waiting (drop l.i units);
      lead : IsLeadOrNone l.waiting;
      step : StoreStep (state l.fn.store) (state l.store) None 0 0;
      history : (state l.store).history ≡ (state l.fn.store).history;
    }
