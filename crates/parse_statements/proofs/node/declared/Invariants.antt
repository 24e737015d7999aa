use Rattle.std.proofs.Common.{◌≡◌, take, map}
use Rattle.eval_tree.specs.Tree.{stmt_tree}
use Rattle.parse_syntax.specs.Grammar.{own_names}
use Rattle.parse_statements.proofs.node.declared.Given as goal

abbrev pub invariant-loop-stmt : goal.invariant-loop-stmt
invariant-loop-stmt l = l.names ≡ own_names (map stmt_tree (take l.stmt-index l.body))
