use Rattle.std.proofs.lemmas.Result.{err_from_is_err_and}
use Rattle.js_store.proofs.Laws.{grows_trans}
use Rattle.eval_tree.specs.Tree.{expr_tree}
use Rattle.js_eval.specs.Expression.{expr_out}
use Rattle.js_eval.specs.Seen.{scope_of}
use Rattle.js_eval.proofs.Stays.{context_fine_still}
use Rattle.js_eval.proofs.Statements.{test_holds, test_stops}
use Rattle.js_eval.proofs.script.is_true_value.Goals as goal

pub returns-in_err-value-clause-did : goal.returns-in_err-value-clause-did
returns-in_err-value-clause-did g c =
    let state = g.S.Strings.state in
    let a = state c.args.store.now in
    let p = err_from_is_err_and c.from_residual.result c.from_residual.ensures.1 in
    rw (p.1, p.2) (test_stops g.S.Strings.number a (state c.expr.new.store) c.in_err-value.field-0.0
    (expr_out (expr_tree c.args.test.now) (scope_of a g.S.Strings.number c.args.context.now)) c.in_err-value.ensures.did)

pub returns-clause-context : goal.returns-clause-context
returns-clause-context g c =
    context_fine_still (g.S.Strings.state c.expr.new.store) (g.S.Strings.state c.truth.new.store) g.S.Strings.number c.truth.ensures.uses.step.grows c.args.context.now c.in_ok-value.ensures.context

pub returns-clause-grows : goal.returns-clause-grows
returns-clause-grows g c = grows_trans c.in_ok-value.ensures.grows c.truth.ensures.uses.step.grows

pub returns-clause-did : goal.returns-clause-did
returns-clause-did g c =
    let state = g.S.Strings.state in
    let a = state c.args.store.now in
    let t = c.truth.ensures in
    test_holds g.S.Strings.number a (state c.expr.new.store) (state c.truth.new.store) c.in_ok-value.value c.truth.result
    (expr_out (expr_tree c.args.test.now) (scope_of a g.S.Strings.number c.args.context.now)) t.value t.uses.step t.uses.history c.in_ok-value.ensures.did
