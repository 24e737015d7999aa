use Rattle.std.proofs.Common.{◌≡◌, ℕ, ◌<◌, get_or}
use Rattle.std.specs.Prelude.{None}
use Rattle.js_store.specs.State.{text}
use Rattle.js_store.specs.Faults.{StoreStep}
use Rattle.js_item.proofs.keyed.is_key.Given as goal

abbrev pub invariant-loop-i : goal.invariant-loop-i
invariant-loop-i g l =
    let state = g.S.Strings.state in
    let a = state l.fn.store in
    record {
      same : (k : ℕ) → k < l.i → get_or (text a (g.S.Strings.number l.key)) k 0 ≡ get_or l.units k 0;
      step : StoreStep a (state l.store) None 0 0;
      history : (state l.store).history ≡ a.history;
    }
