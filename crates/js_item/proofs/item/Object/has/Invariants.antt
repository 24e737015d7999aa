use Rattle.std.proofs.Common.{◌≡◌, take, None}
use Rattle.js_store.specs.Faults.{StoreStep}
use Rattle.js_item.specs.Puts.{has_units, place_by}
use Rattle.js_item.specs.Views.{fields_of}
use Rattle.js_item.proofs.item.Object.has.Given as goal

abbrev pub invariant-loop-member : goal.invariant-loop-member
invariant-loop-member g l =
    let state = g.S.Strings.state in
    let a = state l.fn.store in
    record {
      none : place_by (has_units a g.S.Strings.number l.units) (fields_of (take l.member-index l.member-items)) ≡ None;
      step : StoreStep a (state l.store) None 0 0;
      history : (state l.store).history ≡ a.history;
    }
