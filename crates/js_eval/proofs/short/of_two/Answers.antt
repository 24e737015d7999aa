use Rattle.std.proofs.Common.{arith, Ok, subst}
use Rattle.std.specs.Prelude.{IfSome}
use Rattle.eval_tree.specs.Tree as tree
use Rattle.eval_tree.specs.Tree.{Links, expr_tree}
use Rattle.eval_values.specs.Does.{GivesValue}
use Rattle.js_eval.specs.Expression.{expr_out}
use Rattle.js_eval.specs.Seen.{scope_of}
use Rattle.js_eval.proofs.AtHand.{alone}
use Rattle.js_eval.proofs.short.of_two.Goals as goal

pub returns-clause-did : goal.returns-clause-did
returns-clause-did g c =
    let s = g.S.Strings.state c.args.store.now in
    let number = g.S.Strings.number in
    subst (λ (q : Links). IfSome c.of_link.result (λ v. GivesValue number s s (Ok v) (expr_out (tree.chain (expr_tree c.args.first.now) q) (scope_of s number c.args.context.now))))
    (alone c.args.rest.now c.index-rest-0.result (omega arith) c.index-rest-0.is) c.of_link.ensures.did
