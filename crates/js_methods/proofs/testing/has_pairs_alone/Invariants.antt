use Rattle.std.proofs.Common.{◌≡◌, drop}
use Rattle.std.specs.Prelude.{None}
use Rattle.js_store.specs.State.{text}
use Rattle.js_store.specs.Faults.{StoreStep}
use Rattle.js_methods.specs.Testing.{all_paired}
use Rattle.js_methods.proofs.Pairs.{paired_after}
use Rattle.js_methods.proofs.testing.has_pairs_alone.Given as goal

abbrev pub invariant-loop-i : goal.invariant-loop-i
invariant-loop-i g l =
    let state = g.S.Strings.state in
    let units = text (state l.fn.store) (g.S.Strings.number l.s) in
    record {
      rest : all_paired units ≡ paired_after l.waits (drop l.i units);
      step : StoreStep (state l.fn.store) (state l.store) None 0 0;
      history : (state l.store).history ≡ (state l.fn.store).history;
    }
