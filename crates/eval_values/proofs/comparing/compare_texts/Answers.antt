use Rattle.std.proofs.lemmas.Result.{err_from_is_err_and}
use Rattle.std.specs.Prelude.{Some}
use Rattle.js_search.specs.Order.{units_cmp}
use Rattle.js_store.specs.State.{text}
use Rattle.eval_values.proofs.Orders.{texts_order, compared_cut}
use Rattle.eval_values.proofs.comparing.compare_texts.Goals as goal

pub returns-in_err-settle_both-clause-did : goal.returns-in_err-settle_both-clause-did
returns-in_err-settle_both-clause-did g c =
    let state = g.S.Strings.state in
    let a = state c.args.store.now in
    let u = text a (g.S.Strings.number c.args.a) in
    let w = text a (g.S.Strings.number c.args.b) in
    let p = err_from_is_err_and c.from_residual.result c.from_residual.ensures.1 in
    let e = c.in_err-settle_both.ensures in
    rw (p.1, p.2) (compared_cut a (state c.settle_both.new.store) (Some (units_cmp u w)) u w c.in_err-settle_both.field-0.0 e.uses.step e.uses.history e.uses.no_slots)

pub returns-clause-did : goal.returns-clause-did
returns-clause-did g c =
    let state = g.S.Strings.state in
    let number = g.S.Strings.number in
    let e = c.in_ok-settle_both.ensures in
    let q = c.compare.ensures in
    texts_order (state c.args.store.now) (state c.settle_both.new.store) (state c.compare.new.store) (number c.args.a) (number c.args.b)
    c.requires.left c.requires.right e.uses.step e.uses.history q.uses.step q.uses.history c.compare.result q.order
