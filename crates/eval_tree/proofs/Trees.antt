-- What the tree of each recursive node is.
use Rattle.std.proofs.Common.{◌≡◌, ℕ, Bool, ap, sym, ◌∙◌, refl, List, [], ◌∷◌, map, Option, Box, Vec, Global}
use Rattle.eval_tree.specs.declared.tree.Method.{Method}
use Rattle.eval_tree.specs.declared.tree.Builtin.{Builtin}
use Rattle.eval_tree.specs.declared.tree.Expr.{Expr, fold-roll-Expr}
use Rattle.eval_tree.specs.declared.tree.Link.{Link, fold-Link, fold_out-Link}
use Rattle.eval_tree.specs.declared.tree.PostStep.{PostStep, fold-roll-PostStep, fold_out-PostStep}
use Rattle.eval_tree.specs.declared.tree.Expr.TheOpen.{Expr-F, PostStep-F}
use Rattle.eval_tree.specs.declared.tree.Expr.TheViews.{Chain, rolls-Chain, Cond, rolls-Cond, Unary, rolls-Unary, Post, rolls-Post, Builtin as BuiltinCall, rolls-Builtin, Object, rolls-Object}
use Rattle.eval_tree.specs.declared.tree.Expr.TheViews.{Call, rolls-Call, out-PostStep}
use denote.Hole.Carrier.{out}
use Rattle.eval_tree.specs.declared.tree.PostStep.TheVariants.{Index, Property}
use Rattle.eval_tree.specs.declared.tree.Stmt.{fold-roll-Stmt, fold_out-Stmt}
use Rattle.eval_tree.specs.declared.tree.Stmt.TheOpen.{Stmt-F}
use Rattle.eval_tree.specs.declared.tree.Stmt.TheViews.{out-Stmt, For, rolls-For, If, rolls-If, Block as Inner, rolls-Block}
use Rattle.eval_tree.specs.declared.tree.Stmt.TheVariants.{Let, Const, Assign, Append, Print}
use Rattle.eval_tree.specs.declared.tree.Arm.{Arm, fold_out-Arm}
use Rattle.eval_tree.specs.declared.tree.Block.{Block, fold_out-Block}
use Rattle.eval_tree.specs.Tree.{StmtTree, ArmTree, BlockTree, block, let_line, const_line, assign, append, print, if_line, for_line, block_of, arms, init_tree}
use Rattle.eval_tree.specs.Tree.{stmt_layer, arm_layer, block_layer, stmt_tree, stmts_tree, arm_tree, block_tree}
use Rattle.eval_tree.specs.Tree.{ExprTree, StepTree, LinkTree, chain, conditional, unary, post, builtin, object, of_call, of_index, of_property, links}
use Rattle.eval_tree.specs.Tree.{expr_layer, step_layer, link_layer, expr_tree, step_tree, link_tree, links_tree, steps_tree, exprs_tree, entries_tree}

link_is : (l : Link) → fold-Link ExprTree StepTree LinkTree expr_layer step_layer link_layer l ≡ link_tree l
link_is l = fold_out-Link ExprTree StepTree LinkTree expr_layer step_layer link_layer l

links_are : (ls : List Link) → map (fold-Link ExprTree StepTree LinkTree expr_layer step_layer link_layer) ls ≡ map link_tree ls
links_are [] = refl
links_are (l ∷ ls) = cc (link_is l, links_are ls)

pub tree_of_unary : (at : ℕ) (minus : Bool) (of : Box Expr Global) → expr_tree (Unary at minus of) ≡ unary at minus (expr_tree of.value)
tree_of_unary at minus of =
    ap expr_tree (sym (rolls-Unary at minus of))
    ∙ fold-roll-Expr ExprTree StepTree LinkTree expr_layer step_layer link_layer (Expr-F.Unary at minus of)

pub tree_of_chain : (first : Box Expr Global) (rest : Vec Link Global) → expr_tree (Chain first rest) ≡ chain (expr_tree first.value) (links_tree rest.items)
tree_of_chain first rest =
    ap expr_tree (sym (rolls-Chain first rest))
    ∙ fold-roll-Expr ExprTree StepTree LinkTree expr_layer step_layer link_layer (Expr-F.Chain first rest)
    ∙ ap (λ ls. chain (expr_tree first.value) (links ls)) (links_are rest.items)

pub tree_of_post : (of : Box Expr Global) (ss : Vec PostStep Global) → expr_tree (Post of ss) ≡ post (expr_tree of.value) (steps_tree ss.items)
tree_of_post of ss =
    ap expr_tree (sym (rolls-Post of ss))
    ∙ fold-roll-Expr ExprTree StepTree LinkTree expr_layer step_layer link_layer (Expr-F.Post of ss)

pub tree_of_call : (at : ℕ) (method : Method) (args : Vec Expr Global) → step_tree (Call at method args) ≡ of_call at method (exprs_tree args.items)
tree_of_call at method args =
    ap step_tree (sym (rolls-Call at method args))
    ∙ fold-roll-PostStep ExprTree StepTree LinkTree expr_layer step_layer link_layer (PostStep-F.Call at method args)

pub tree_of_index : (at : ℕ) (index : Expr) → step_tree (Index at index) ≡ of_index at (expr_tree index)
unfolding out-PostStep out
tree_of_index at index = fold_out-PostStep ExprTree StepTree LinkTree expr_layer step_layer link_layer (Index at index)

pub tree_of_property : (at : ℕ) (key : List ℕ) → step_tree (Property at key) ≡ of_property at key
unfolding out-PostStep out
tree_of_property at key = fold_out-PostStep ExprTree StepTree LinkTree expr_layer step_layer link_layer (Property at key)

pub tree_of_object : (at : ℕ) (members : Vec (List ℕ × Expr) Global) → expr_tree (Object at members) ≡ object at (entries_tree members.items)
tree_of_object at members =
    ap expr_tree (sym (rolls-Object at members))
    ∙ fold-roll-Expr ExprTree StepTree LinkTree expr_layer step_layer link_layer (Expr-F.Object at members)

pub tree_of_builtin : (at : ℕ) (which : Builtin) (args : Vec Expr Global) → expr_tree (BuiltinCall at which args) ≡ builtin at which (exprs_tree args.items)
tree_of_builtin at which args =
    ap expr_tree (sym (rolls-Builtin at which args))
    ∙ fold-roll-Expr ExprTree StepTree LinkTree expr_layer step_layer link_layer (Expr-F.Builtin at which args)

pub tree_of_conditional : (test then other : Box Expr Global) → expr_tree (Cond test then other) ≡ conditional (expr_tree test.value) (expr_tree then.value) (expr_tree other.value)
tree_of_conditional test then other =
    ap expr_tree (sym (rolls-Cond test then other))
    ∙ fold-roll-Expr ExprTree StepTree LinkTree expr_layer step_layer link_layer (Expr-F.Cond test then other)

-- statements, arms and blocks
pub block_is : (b : Block) → block_tree b ≡ block_of b.names (stmts_tree b.body.items)
block_is b = fold_out-Block StmtTree ArmTree BlockTree stmt_layer arm_layer block_layer b

pub arm_is : (a : Arm) → arm_tree a ≡ record { test = expr_tree a.test; body = block_tree a.body }
arm_is a = fold_out-Arm StmtTree ArmTree BlockTree stmt_layer arm_layer block_layer a

pub tree_of_block : (inner : Block) → stmt_tree (Inner inner) ≡ block (block_tree inner)
tree_of_block inner =
    ap stmt_tree (sym (rolls-Block inner))
    ∙ fold-roll-Stmt StmtTree ArmTree BlockTree stmt_layer arm_layer block_layer (Stmt-F.Block inner)

pub tree_of_if : (tests : Vec Arm Global) (rest : Block) → stmt_tree (If tests rest) ≡ if_line (arms (map arm_tree tests.items)) (block_tree rest)
tree_of_if tests rest =
    ap stmt_tree (sym (rolls-If tests rest))
    ∙ fold-roll-Stmt StmtTree ArmTree BlockTree stmt_layer arm_layer block_layer (Stmt-F.If tests rest)

pub tree_of_for : (x : List ℕ) (n : ℕ) (body : Block) → stmt_tree (For x n body) ≡ for_line x n (block_tree body)
tree_of_for x n body =
    ap stmt_tree (sym (rolls-For x n body))
    ∙ fold-roll-Stmt StmtTree ArmTree BlockTree stmt_layer arm_layer block_layer (Stmt-F.For x n body)

pub tree_of_let : (at : ℕ) (x : List ℕ) (init : Option Expr) → stmt_tree (Let at x init) ≡ let_line at x (init_tree init)
unfolding out-Stmt out
tree_of_let at x init = fold_out-Stmt StmtTree ArmTree BlockTree stmt_layer arm_layer block_layer (Let at x init)

pub tree_of_const : (at : ℕ) (x : List ℕ) (e : Expr) → stmt_tree (Const at x e) ≡ const_line at x (expr_tree e)
unfolding out-Stmt out
tree_of_const at x e = fold_out-Stmt StmtTree ArmTree BlockTree stmt_layer arm_layer block_layer (Const at x e)

pub tree_of_assign : (at : ℕ) (x : List ℕ) (e : Expr) → stmt_tree (Assign at x e) ≡ assign at x (expr_tree e)
unfolding out-Stmt out
tree_of_assign at x e = fold_out-Stmt StmtTree ArmTree BlockTree stmt_layer arm_layer block_layer (Assign at x e)

pub tree_of_append : (at name_at : ℕ) (x : List ℕ) (e : Expr) → stmt_tree (Append at name_at x e) ≡ append at name_at x (expr_tree e)
unfolding out-Stmt out
tree_of_append at name_at x e = fold_out-Stmt StmtTree ArmTree BlockTree stmt_layer arm_layer block_layer (Append at name_at x e)

pub tree_of_print : (args : Vec Expr Global) → stmt_tree (Print args) ≡ print (exprs_tree args.items)
unfolding out-Stmt out
tree_of_print args = fold_out-Stmt StmtTree ArmTree BlockTree stmt_layer arm_layer block_layer (Print args)
