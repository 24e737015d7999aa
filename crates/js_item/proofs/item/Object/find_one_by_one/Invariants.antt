use Rattle.std.proofs.Common.{◌≡◌, take, None}
use Rattle.js_store.specs.State.{text}
use Rattle.js_store.specs.Faults.{StoreStep}
use Rattle.js_item.specs.Puts.{has_units, place_by}
use Rattle.js_item.specs.Views.{fields_of}
use Rattle.js_item.proofs.item.Object.find_one_by_one.Given as goal

abbrev pub invariant-loop-i : goal.invariant-loop-i
invariant-loop-i g l =
    let state = g.S.Strings.state in
    let number = g.S.Strings.number in
    let a = state l.fn.store in
    record {
      none : place_by (has_units a number (text a (number l.key))) (fields_of (take l.i l.member-items)) ≡ None;
      step : StoreStep a (state l.store) None 0 0;
      history : (state l.store).history ≡ a.history;
    }
