use Rattle.std.proofs.lemmas.Result.{err_from_is_err_and}
use Rattle.js_item.specs.Seen.{seen}
use Rattle.eval_values.specs.Comparing.{order_out, is_less, is_greater, is_at_most, is_at_least}
use Rattle.js_eval.proofs.Applied.{truth_does, truth_stops}
use Rattle.js_eval.proofs.operators.apply_to_any.Goals as goal

pub returns-in_ok-order-in-Less-clause-did : goal.returns-in_ok-order-in-Less-clause-did
returns-in_ok-order-in-Less-clause-did g c =
    let state = g.S.Strings.state in
    let number = g.S.Strings.number in
    let a = state c.args.store.now in
    rw c.in-Less.is (truth_does number a (state c.compare.new.store) is_less
    (order_out c.args.at a.limit (seen a number c.args.left.now) (seen a number c.args.right)) c.in_ok-order-in-Less.order c.is_less.result
    c.is_less.ensures c.in_ok-order-in-Less.ensures.did)

pub returns-in_ok-order-in-Greater-clause-did : goal.returns-in_ok-order-in-Greater-clause-did
returns-in_ok-order-in-Greater-clause-did g c =
    let state = g.S.Strings.state in
    let number = g.S.Strings.number in
    let a = state c.args.store.now in
    rw c.in-Greater.is (truth_does number a (state c.compare-in-Greater.new.store) is_greater
    (order_out c.args.at a.limit (seen a number c.args.left.now) (seen a number c.args.right)) c.in_ok-order-in-Greater.order
    c.is_greater.result c.is_greater.ensures c.in_ok-order-in-Greater.ensures.did)

pub returns-in_ok-order-in-LessEq-clause-did : goal.returns-in_ok-order-in-LessEq-clause-did
returns-in_ok-order-in-LessEq-clause-did g c =
    let state = g.S.Strings.state in
    let number = g.S.Strings.number in
    let a = state c.args.store.now in
    rw c.in-LessEq.is (truth_does number a (state c.compare-in-LessEq.new.store) is_at_most
    (order_out c.args.at a.limit (seen a number c.args.left.now) (seen a number c.args.right)) c.in_ok-order-in-LessEq.order
    c.is_at_most.result c.is_at_most.ensures c.in_ok-order-in-LessEq.ensures.did)

pub returns-in_ok-order-in-GreaterEq-clause-did : goal.returns-in_ok-order-in-GreaterEq-clause-did
returns-in_ok-order-in-GreaterEq-clause-did g c =
    let state = g.S.Strings.state in
    let number = g.S.Strings.number in
    let a = state c.args.store.now in
    rw c.in-GreaterEq.is (truth_does number a (state c.compare-in-GreaterEq.new.store) is_at_least
    (order_out c.args.at a.limit (seen a number c.args.left.now) (seen a number c.args.right)) c.in_ok-order-in-GreaterEq.order
    c.is_at_least.result c.is_at_least.ensures c.in_ok-order-in-GreaterEq.ensures.did)

pub returns-in_err-order-in-Less-clause-did : goal.returns-in_err-order-in-Less-clause-did
returns-in_err-order-in-Less-clause-did g c =
    let state = g.S.Strings.state in
    let number = g.S.Strings.number in
    let a = state c.args.store.now in
    let p = err_from_is_err_and c.from_residual-in_err-order-in-Less.result c.from_residual-in_err-order-in-Less.ensures.1 in
    rw (p.1, p.2, c.in-Less.is) (truth_stops number a (state c.compare.new.store) is_less
    (order_out c.args.at a.limit (seen a number c.args.left.now) (seen a number c.args.right)) c.in_err-order-in-Less.field-0.0
    c.in_err-order-in-Less.ensures.did)

pub returns-in_err-order-in-Greater-clause-did : goal.returns-in_err-order-in-Greater-clause-did
returns-in_err-order-in-Greater-clause-did g c =
    let state = g.S.Strings.state in
    let number = g.S.Strings.number in
    let a = state c.args.store.now in
    let p = err_from_is_err_and c.from_residual-in_err-order-in-Greater.result c.from_residual-in_err-order-in-Greater.ensures.1 in
    rw (p.1, p.2, c.in-Greater.is) (truth_stops number a (state c.compare-in-Greater.new.store) is_greater
    (order_out c.args.at a.limit (seen a number c.args.left.now) (seen a number c.args.right)) c.in_err-order-in-Greater.field-0.0
    c.in_err-order-in-Greater.ensures.did)

pub returns-in_err-order-in-LessEq-clause-did : goal.returns-in_err-order-in-LessEq-clause-did
returns-in_err-order-in-LessEq-clause-did g c =
    let state = g.S.Strings.state in
    let number = g.S.Strings.number in
    let a = state c.args.store.now in
    let p = err_from_is_err_and c.from_residual-in_err-order-in-LessEq.result c.from_residual-in_err-order-in-LessEq.ensures.1 in
    rw (p.1, p.2, c.in-LessEq.is) (truth_stops number a (state c.compare-in-LessEq.new.store) is_at_most
    (order_out c.args.at a.limit (seen a number c.args.left.now) (seen a number c.args.right)) c.in_err-order-in-LessEq.field-0.0
    c.in_err-order-in-LessEq.ensures.did)

pub returns-in_err-order-in-GreaterEq-clause-did : goal.returns-in_err-order-in-GreaterEq-clause-did
returns-in_err-order-in-GreaterEq-clause-did g c =
    let state = g.S.Strings.state in
    let number = g.S.Strings.number in
    let a = state c.args.store.now in
    let p = err_from_is_err_and c.from_residual-in_err-order-in-GreaterEq.result c.from_residual-in_err-order-in-GreaterEq.ensures.1 in
    rw (p.1, p.2, c.in-GreaterEq.is) (truth_stops number a (state c.compare-in-GreaterEq.new.store) is_at_least
    (order_out c.args.at a.limit (seen a number c.args.left.now) (seen a number c.args.right)) c.in_err-order-in-GreaterEq.field-0.0
    c.in_err-order-in-GreaterEq.ensures.did)
