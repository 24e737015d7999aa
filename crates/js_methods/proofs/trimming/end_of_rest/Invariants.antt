use Rattle.std.proofs.Common.{◌≡◌, ◌+◌, ◌-◌, drop, length, reverse}
use Rattle.std.specs.Prelude.{None}
use Rattle.js_store.specs.State.{text}
use Rattle.js_store.specs.Faults.{StoreStep}
use Rattle.js_methods.specs.Blanks.{blanks}
use Rattle.js_methods.proofs.trimming.end_of_rest.Given as goal

abbrev pub invariant-loop-i : goal.invariant-loop-i
invariant-loop-i g l =
    let state = g.S.Strings.state in
    let units = text (state l.fn.store) (g.S.Strings.number l.s) in
    let back = reverse (drop l.from units) in
    record {
      rest : blanks back ≡ (length units - l.i) + blanks (drop (length units - l.i) back);
      step : StoreStep (state l.fn.store) (state l.store) None 0 0;
      history : (state l.store).history ≡ (state l.fn.store).history;
    }
