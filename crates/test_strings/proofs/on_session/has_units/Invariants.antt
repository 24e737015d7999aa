use Rattle.std.proofs.Common.{◌≡◌}
use Rattle.std.specs.Prelude.{None}
use Rattle.js_store.specs.Faults.{StoreStep}
use Rattle.heap_session.specs.Sessions.{state_in}
use Rattle.test_strings.proofs.on_session.has_units.Given as goal

abbrev pub invariant-loop-i : goal.invariant-loop-i
invariant-loop-i l = record {
  step : StoreStep (state_in l.fn.session) (state_in l.session) None 0 0;
  history : (state_in l.session).history ≡ (state_in l.fn.session).history;
}
