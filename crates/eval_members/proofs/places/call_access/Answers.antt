use Rattle.eval_values.specs.RowNames.{row_ids, row_words}
use Rattle.std.proofs.Common.{arith, length, ◌+◌}
use Rattle.std.proofs.lemmas.Result.{err_from_is_err_and}
use Rattle.js_store.specs.State.{text}
use Rattle.eval_values.specs.Conversions.{all_units, string_units}
use Rattle.eval_values.specs.Seen.{all_seen}
use Rattle.eval_members.specs.Methods.{access_of}
use Rattle.eval_values.proofs.Limited.{row_stops}
use Rattle.eval_members.proofs.places.call_access.Goals as goal

pub returns-in_err-value-clause-did : goal.returns-in_err-value-clause-did
returns-in_err-value-clause-did g c =
    let state = g.S.Strings.state in
    let number = g.S.Strings.number in
    let a = state c.args.store.now in
    let u = text a (number c.args.s) in
    let t = length u + all_units (all_seen a number c.args.args.now) in
    let v = access_of c.args.access u c.in_ok-n.n in
    let e = c.in_err-value.ensures in
    let p = err_from_is_err_and c.from_residual-in_err-value.result c.from_residual-in_err-value.ensures.1 in
    rw (p.1, p.2, ← c.in_ok-n.ensures.value) (row_stops number a (state c.accessed.new.store) row_ids
    (row_words (t + string_units v)) v c.in_err-value.field-0.0 e.throws
    (rw c.in_ok-n.ensures.same at e.uses.step) (rw c.in_ok-n.ensures.same at e.uses.history) e.uses.no_slots (omega arith) (omega arith))
