use Rattle.std.proofs.lemmas.Result.{err_from_is_err_and}
use Rattle.eval_tree.specs.Tree.{expr_tree}
use Rattle.eval_values.proofs.Still.{fine_still}
use Rattle.js_eval.proofs.Stays.{context_fine_still}
use Rattle.js_eval.proofs.Statements.{sum_does, sum_stops}
use Rattle.js_eval.proofs.script.sum_with.Goals as goal

pub returns-in_err-right-clause-did : goal.returns-in_err-right-clause-did
returns-in_err-right-clause-did g c = λ n q.
    let state = g.S.Strings.state in
    let p = err_from_is_err_and c.from_residual.result c.from_residual.ensures.1 in
    rw (p.1, p.2) (sum_stops g.S.Strings.number (state c.args.store.now) (state c.side.new.store) c.args.at n (expr_tree c.args.value.now)
    c.args.context.now c.value_at-left.result.now c.in_err-right.field-0.0 (c.value_at-left.ensures.did n q) c.in_err-right.ensures.did)

pub apply-requires-clause-left : goal.apply-requires-clause-left
apply-requires-clause-left g c =
    fine_still (g.S.Strings.state c.args.store.now) (g.S.Strings.state c.side.new.store) g.S.Strings.number c.in_ok-right.ensures.grows c.value_at-left.result.now c.value_at-left.ensures.fine

pub returns-clause-context : goal.returns-clause-context
returns-clause-context g c =
    context_fine_still (g.S.Strings.state c.side.new.store) (g.S.Strings.state c.apply.new.store) g.S.Strings.number c.apply.ensures.grows c.args.context.now c.in_ok-right.ensures.context

pub returns-clause-did : goal.returns-clause-did
returns-clause-did g c = λ n q.
    let state = g.S.Strings.state in
    sum_does g.S.Strings.number (state c.args.store.now) (state c.side.new.store) (state c.apply.new.store) c.args.at n
    (expr_tree c.args.value.now) c.args.context.now c.value_at-left.result.now c.in_ok-right.right c.apply.result c.in_ok-right.ensures.grows
    c.value_at-left.ensures.fine (c.value_at-left.ensures.did n q) c.in_ok-right.ensures.did c.apply.ensures.did
