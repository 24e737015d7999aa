use Rattle.std.proofs.Common.{arith}
use Rattle.std.proofs.lemmas.Result.{err_from_is_err_and}
use Rattle.js_store.specs.State.{text}
use Rattle.eval_members.proofs.Pads.{repeat_stops}
use Rattle.eval_members.proofs.building.call_repeat.Goals as goal

pub returns-in_err-r-clause-did : goal.returns-in_err-r-clause-did
returns-in_err-r-clause-did g c =
    let number = g.S.Strings.number in
    let a = g.S.Strings.state c.args.store.now in
    let e = c.in_err-r.ensures in
    let same = c.in_ok-n.ensures.same in
    let p = err_from_is_err_and c.from_residual-in_err-r.result c.from_residual-in_err-r.ensures.1 in
    rw (p.1, p.2, ← c.in_ok-n.ensures.value) (repeat_stops a.limit (text a (number c.args.s)) c.in_ok-n.n (rw same at e.uses.history)
    (omega arith) (omega arith) number c.in_err-r.field-0.0 (rw same at e.throws) (rw same at e.uses.step) e.uses.no_slots)
