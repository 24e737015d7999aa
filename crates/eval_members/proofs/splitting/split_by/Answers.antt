use Rattle.std.proofs.Common.{arith, length, Some}
use Rattle.std.proofs.lemmas.Result.{err_from_is_err_and}
use Rattle.js_store.specs.State.{text}
use Rattle.js_replace.specs.Parts.{parts}
use Rattle.eval_members.proofs.Parts.{split_given, split_stops, split_use}
use Rattle.eval_members.proofs.splitting.split_by.Goals as goal

pub returns-clause-did : goal.returns-clause-did
returns-clause-did g c = λ t k.
    let state = g.S.Strings.state in
    let number = g.S.Strings.number in
    let a = state c.args.store.now in
    let e = c.in_ok-parts.ensures in
    let u = text a (number c.args.s) in
    let w = text a (number c.args.sep) in
    let us = parts u (Some w) c.args.most in
    split_given number t u (Some w) c.args.most _ _ e.uses.history (omega arith)
    (split_use t (length u) (length w) (a.settled (number c.args.s)) (a.settled (number c.args.sep)) us k) c.in_ok-parts.parts e.value e.known e.uses.step

pub returns-in_err-parts-clause-did : goal.returns-in_err-parts-clause-did
returns-in_err-parts-clause-did g c = λ t k.
    let state = g.S.Strings.state in
    let number = g.S.Strings.number in
    let a = state c.args.store.now in
    let e = c.in_err-parts.ensures in
    let u = text a (number c.args.s) in
    let w = text a (number c.args.sep) in
    let us = parts u (Some w) c.args.most in
    let p = err_from_is_err_and c.from_residual.result c.from_residual.ensures.1 in
    rw (p.1, p.2) (split_stops number t u (Some w) c.args.most _ _ e.uses.history (omega arith)
    (split_use t (length u) (length w) (a.settled (number c.args.s)) (a.settled (number c.args.sep)) us k) c.in_err-parts.field-0.0 e.throws
    e.uses.step e.uses.no_slots)
