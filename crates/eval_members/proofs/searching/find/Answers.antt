use Rattle.eval_values.specs.RowNames.{row_ids, row_words}
use Rattle.std.proofs.Common.{arith}
use Rattle.std.proofs.lemmas.Result.{err_from_is_err_and}
use Rattle.js_store.specs.State.{text}
use Rattle.eval_members.specs.Methods.{search_of}
use Rattle.eval_values.proofs.Limited.{row_stops}
use Rattle.eval_members.proofs.searching.find.Goals as goal

pub returns-in_err-searched-clause-did : goal.returns-in_err-searched-clause-did
returns-in_err-searched-clause-did g c = λ t k.
    let state = g.S.Strings.state in
    let number = g.S.Strings.number in
    let a = state c.args.store.now in
    let e = c.in_err-searched.ensures in
    let p = err_from_is_err_and c.from_residual-in_err-searched.result c.from_residual-in_err-searched.ensures.1 in
    rw (p.1, p.2, c.in_ok-n.was) (row_stops number a (state c.searched.new.store) row_ids (row_words t)
    (search_of c.args.search (text a (number c.args.s)) (text a (number c.args.w)) c.in_ok-n.n) c.in_err-searched.field-0.0 e.throws
    e.uses.step e.uses.history e.uses.no_slots (omega arith) (omega (arith, k)))
