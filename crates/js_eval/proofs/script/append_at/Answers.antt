use Rattle.js_eval.specs.Pieces.{sum_of_both}
use Rattle.std.proofs.lemmas.Result.{err_from_is_err_and}
use Rattle.eval_tree.specs.Tree.{expr_tree}
use Rattle.eval_scopes.specs.Bindings.{meant}
use Rattle.js_eval.specs.Script.{assigned}
use Rattle.js_eval.specs.Seen.{context_bindings, scope_of}
use Rattle.js_eval.proofs.Statements.{then_went, then_halts}
use Rattle.js_eval.proofs.script.append_at.Goals as goal

pub returns-in_err-value-clause-went : goal.returns-in_err-value-clause-went
returns-in_err-value-clause-went g c = λ n q at x.
    let state = g.S.Strings.state in
    let number = g.S.Strings.number in
    let a = state c.args.store.now in
    let s = scope_of a number c.args.context.now in
    let e = c.in_err-value.ensures in
    let p = err_from_is_err_and c.from_residual.result c.from_residual.ensures.1 in
    rw (p.1, p.2) (then_halts number a (state c.sum_with.new.store) x c.args.context.now c.in_err-value.field-0.0
    (sum_of_both c.args.at n (expr_tree c.args.value.now) s) (λ v. assigned (meant s.bindings n) n v s.bindings) e.grows c.requires.context (e.did n q))

pub returns-clause-went : goal.returns-clause-went
returns-clause-went g c = λ n q at x.
    let state = g.S.Strings.state in
    let number = g.S.Strings.number in
    let a = state c.args.store.now in
    let b = state c.sum_with.new.store in
    let s = scope_of a number c.args.context.now in
    let e = c.in_ok-value.ensures in
    then_went number a b b x c.args.context.now c.in_ok-value.value c.assign_at.result (context_bindings b number c.assign_at.new.context)
    (sum_of_both c.args.at n (expr_tree c.args.value.now) s) (λ s v. assigned (meant s.bindings n) n v s.bindings) e.grows
    c.requires.context (e.did n q) (c.assign_at.ensures.went n q x)
