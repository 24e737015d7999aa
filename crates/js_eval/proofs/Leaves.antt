-- What the tree of an expression is that holds no other.
use Rattle.std.proofs.Common.{◌≡◌, ℕ, List}
use Rattle.eval_tree.specs.declared.tree.Expr.{fold_out-Expr}
use Rattle.eval_tree.specs.declared.tree.Expr.TheVariants.{Literal, Number, Variable}
use Rattle.eval_tree.specs.declared.tree.Expr.TheViews.{out-Expr}
use denote.Hole.Carrier.{out}
use Rattle.eval_tree.specs.Tree.{ExprTree, StepTree, LinkTree, literal, number, variable, expr_layer, step_layer, link_layer, expr_tree}

pub tree_of_literal : (n : ℕ) → expr_tree (Literal n) ≡ literal n
unfolding out-Expr out
tree_of_literal n = fold_out-Expr ExprTree StepTree LinkTree expr_layer step_layer link_layer (Literal n)

pub tree_of_number : (n : ℕ) → expr_tree (Number n) ≡ number n
unfolding out-Expr out
tree_of_number n = fold_out-Expr ExprTree StepTree LinkTree expr_layer step_layer link_layer (Number n)

pub tree_of_variable : (x : List ℕ) → expr_tree (Variable x) ≡ variable x
unfolding out-Expr out
tree_of_variable x = fold_out-Expr ExprTree StepTree LinkTree expr_layer step_layer link_layer (Variable x)
