use Rattle.std.proofs.Common.{arith, ap, sym}
use Rattle.eval_tree.specs.Tree as tree
use Rattle.eval_tree.specs.Tree.{Links, expr_tree}
use Rattle.js_eval.proofs.AtHand.{alone}
use Rattle.js_eval.proofs.compared.sides_of.Goals as goal

pub returns-clause-tree : goal.returns-clause-tree
returns-clause-tree c = ap (λ (q : Links). tree.chain (expr_tree c.args.first.now) q)
    (sym (alone c.args.rest.now c.index-rest-0.result (omega arith) c.index-rest-0.is))

pub returns-clause-both : goal.returns-clause-both
returns-clause-both c = c.needs_both.ensures c.if-not-needs_both.false
