use Rattle.std.proofs.Common.{◌∙◌, sym, ap, ◌++◌}
use Rattle.eval_tree.specs.Tree.{stmt_tree}
use Rattle.parse_syntax.specs.Grammar.{own_name}
use Rattle.parse_statements.proofs.OwnNames.{one_more}
use Rattle.parse_statements.proofs.node.declared.Goals as goal

pub loop-stmt-preserved : goal.loop-stmt-preserved
loop-stmt-preserved c =
    c.in_ok-add_declared.ensures ∙ ap (λ l. l ++ own_name (stmt_tree c.stmt-item.result)) c.loop-stmt.invariant ∙ sym
    (one_more c.args.body.now c.loop-stmt.stmt-index c.stmt-item.result c.loop-stmt-test.true c.stmt-item.is)
