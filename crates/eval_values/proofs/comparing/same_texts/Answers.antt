use Rattle.std.proofs.lemmas.Result.{err_from_is_err_and}
use Rattle.std.specs.Prelude.{bytes_eq}
use Rattle.js_store.specs.State.{text}
use Rattle.eval_values.proofs.Orders.{texts_same, one_same, compared_cut}
use Rattle.eval_values.proofs.comparing.same_texts.Goals as goal

pub returns-in_err-settle_both-clause-did : goal.returns-in_err-settle_both-clause-did
returns-in_err-settle_both-clause-did g c =
    let state = g.S.Strings.state in
    let a = state c.args.store.now in
    let u = text a (g.S.Strings.number c.args.a) in
    let w = text a (g.S.Strings.number c.args.b) in
    let p = err_from_is_err_and c.from_residual.result c.from_residual.ensures.1 in
    let e = c.in_err-settle_both.ensures in
    rw (p.1, p.2) (compared_cut a (state c.settle_both.new.store) (bytes_eq u w) u w c.in_err-settle_both.field-0.0 e.uses.step e.uses.history e.uses.no_slots)

pub returns-clause-did : goal.returns-clause-did
returns-clause-did g c =
    let state = g.S.Strings.state in
    let number = g.S.Strings.number in
    let e = c.in_ok-settle_both.ensures in
    let q = c.equal.ensures in
    texts_same (state c.args.store.now) (state c.settle_both.new.store) (state c.equal.new.store) (number c.args.a) (number c.args.b)
    c.requires.left c.requires.right e.uses.step e.uses.history q.uses.step q.uses.history c.equal.result q.value

pub returns-then-is_one-clause-did : goal.returns-then-is_one-clause-did
returns-then-is_one-clause-did g c =
    let number = g.S.Strings.number in
    one_same (g.S.Strings.state c.args.store.now) (number c.args.a) (number c.args.b) (c.is_one.ensures c.if-is_one.true)
