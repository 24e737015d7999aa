use Rattle.std.proofs.Common.{arith, None}
use Rattle.std.proofs.lemmas.Result.{err_from_is_err_and}
use Rattle.js_store.specs.State.{text}
use Rattle.eval_members.proofs.Parts.{split_stops}
use Rattle.eval_members.proofs.splitting.keep_whole.Goals as goal

pub returns-in_err-parts-clause-did : goal.returns-in_err-parts-clause-did
returns-in_err-parts-clause-did g c = λ t.
    let number = g.S.Strings.number in
    let a = g.S.Strings.state c.args.store.now in
    let e = c.in_err-parts.ensures in
    let p = err_from_is_err_and c.from_residual.result c.from_residual.ensures.1 in
    rw (p.1, p.2) (split_stops number t (text a (number c.args.s)) None c.args.most _ _ e.uses.history (omega arith) (omega arith) c.in_err-parts.field-0.0 e.throws e.uses.step e.uses.no_slots)
