use Rattle.eval_values.specs.RowNames.{row_ids, row_words}
use Rattle.std.proofs.Common.{arith}
use Rattle.std.proofs.lemmas.Result.{err_from_is_err_and}
use Rattle.js_store.specs.State.{text}
use Rattle.js_methods.specs.Searching.{ends_at}
use Rattle.js_item.specs.Contents.{bool}
use Rattle.eval_values.proofs.Limited.{row_stops}
use Rattle.eval_members.proofs.searching.find_end.Goals as goal

pub returns-in_err-ends-clause-did : goal.returns-in_err-ends-clause-did
returns-in_err-ends-clause-did g c = λ t k.
    let state = g.S.Strings.state in
    let number = g.S.Strings.number in
    let a = state c.args.store.now in
    let e = c.in_err-ends.ensures in
    let p = err_from_is_err_and c.from_residual-in_err-ends.result c.from_residual-in_err-ends.ensures.1 in
    rw (p.1, p.2, c.in_ok-end.was) (row_stops number a (state c.ends_with.new.store) row_ids (row_words t)
    (bool (ends_at (text a (number c.args.s)) (text a (number c.args.w)) c.in_ok-end.end)) c.in_err-ends.field-0.0 e.throws e.uses.step
    e.uses.history e.uses.no_slots (omega arith) (omega (arith, k)))
