use Rattle.std.proofs.Common.{refl}
use Rattle.eval_values.specs.declared.value.Kind.TheVariants.{ReferenceError}
use Rattle.eval_values.specs.declared.value.Stop.TheVariants.{Threw}
use Rattle.eval_values.specs.Outcome.{bind}
use Rattle.eval_values.specs.Operators.{plus}
use Rattle.js_item.specs.Seen.{seen}
use Rattle.js_item.specs.Fine.{IsFine}
use Rattle.eval_tree.specs.Tree.{expr_tree}
use Rattle.eval_scopes.specs.Bindings.{meant}
use Rattle.eval_scopes.specs.Seen.{bindings_of}
use Rattle.js_eval.specs.Expression.{read_out, expr_out}
use Rattle.js_eval.specs.Script.{assigned}
use Rattle.js_eval.specs.Seen.{context_bindings, scope_of}
use Rattle.js_eval.proofs.Names.{unread}
use Rattle.js_eval.proofs.Flows.{bind_halts}
use Rattle.js_eval.proofs.script.evaluate_append.Goals as goal

pub returns-in-Some-clause-went : goal.returns-in-Some-clause-went
returns-in-Some-clause-went g c = λ at x. c.append_at.ensures.went c.args.name.now c.in-Some.ensures at x

pub returns-in-None-clause-went : goal.returns-in-None-clause-went
returns-in-None-clause-went g c = λ at x.
    let number = g.S.Strings.number in
    let a = g.S.Strings.state c.args.store.now in
    let n = c.args.name.now in
    let bs = context_bindings a number c.args.context.now in
    let s = scope_of a number c.args.context.now in
    bind_halts a a x (λ o v. seen o number v) (λ o v. IsFine o number v) (Threw ReferenceError) bs bs (read_out (meant bs n))
    (λ v. bind (expr_out (expr_tree c.args.value.now) s) (λ w. plus c.args.at s.limit v w)) (λ v. assigned (meant bs n) n v bs) refl
    (unread a number (bindings_of c.args.context.now.scope) n c.in-None.ensures)
