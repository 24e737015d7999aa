-- What the tree of an `if` and of an arm is.
use Rattle.std.proofs.Common.{◌≡◌, ap, sym, ◌∙◌, map, Vec, Global}
use Rattle.eval_tree.specs.declared.tree.Stmt.{fold-roll-Stmt}
use Rattle.eval_tree.specs.declared.tree.Arm.{Arm, fold_out-Arm}
use Rattle.eval_tree.specs.declared.tree.Block.{Block}
use Rattle.eval_tree.specs.declared.tree.Stmt.TheOpen.{Stmt-F}
use Rattle.eval_tree.specs.declared.tree.Stmt.TheViews.{If, rolls-If}
use Rattle.eval_tree.specs.Tree as tree
use Rattle.eval_tree.specs.Tree.{StmtTree, ArmTree, BlockTree, arms, stmt_layer, arm_layer, block_layer, stmt_tree, arm_tree, block_tree}

pub arm_body : (a : Arm) → (arm_tree a).body ≡ block_tree a.body
arm_body a = ap (λ (q : ArmTree). q.body) (fold_out-Arm StmtTree ArmTree BlockTree stmt_layer arm_layer block_layer a)

pub tree_of_if : (tests : Vec Arm Global) (rest : Block) → stmt_tree (If tests rest) ≡ tree.if_line (arms (map arm_tree tests.items)) (block_tree rest)
tree_of_if tests rest = ap stmt_tree (sym (rolls-If tests rest)) ∙ fold-roll-Stmt StmtTree ArmTree BlockTree stmt_layer arm_layer block_layer (Stmt-F.If tests rest)
