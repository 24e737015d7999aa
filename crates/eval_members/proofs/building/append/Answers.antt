use Rattle.std.proofs.lemmas.Result.{err_from_is_err_and}
use Rattle.js_store.specs.State.{text}
use Rattle.eval_members.proofs.Joined.{joined_stops}
use Rattle.eval_members.proofs.building.append.Goals as goal

pub returns-in_err-concat-clause-did : goal.returns-in_err-concat-clause-did
returns-in_err-concat-clause-did g c =
    let state = g.S.Strings.state in
    let number = g.S.Strings.number in
    let a = state c.args.store.now in
    let e = c.in_err-concat.ensures in
    let p = err_from_is_err_and c.from_residual.result c.from_residual.ensures.1 in
    rw (p.1, p.2) (joined_stops number a (state c.concat.new.store) a.limit (text a (number c.args.s)) (text a (number c.args.w))
    c.in_err-concat.field-0.0 e.throws e.uses.step e.uses.history e.uses.no_slots)
