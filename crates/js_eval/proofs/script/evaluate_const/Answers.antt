use Rattle.std.proofs.lemmas.Result.{err_from_is_err_and}
use Rattle.std.proofs.Common.{true}
use Rattle.eval_tree.specs.Tree.{expr_tree}
use Rattle.js_eval.specs.Expression.{expr_out}
use Rattle.js_eval.specs.Script.{declares}
use Rattle.js_eval.specs.Seen.{context_bindings, scope_of}
use Rattle.js_eval.proofs.Statements.{then_went, then_halts}
use Rattle.js_eval.proofs.script.evaluate_const.Goals as goal

pub returns-in_err-value-clause-went : goal.returns-in_err-value-clause-went
returns-in_err-value-clause-went g c = λ at x.
    let state = g.S.Strings.state in
    let number = g.S.Strings.number in
    let a = state c.args.store.now in
    let s = scope_of a number c.args.context.now in
    let e = c.in_err-value.ensures in
    let p = err_from_is_err_and c.from_residual.result c.from_residual.ensures.1 in
    rw (p.1, p.2) (then_halts number a (state c.side.new.store) x c.args.context.now c.in_err-value.field-0.0
    (expr_out (expr_tree c.args.init.now) s) (λ v. declares c.args.name.now true s v) e.grows c.requires e.did)

pub returns-clause-went : goal.returns-clause-went
returns-clause-went g c = λ at x.
    let state = g.S.Strings.state in
    let number = g.S.Strings.number in
    let a = state c.args.store.now in
    let b = state c.side.new.store in
    let s = scope_of a number c.args.context.now in
    let e = c.in_ok-value.ensures in
    then_went number a b b x c.args.context.now c.in_ok-value.value c.declare.result (context_bindings b number c.declare.new.context)
    (expr_out (expr_tree c.args.init.now) s) (λ s v. declares c.args.name.now true s v) e.grows c.requires e.did (c.declare.ensures.went x)
