-- The first statements, as a list and as a tree.
use Rattle.std.proofs.Common.{◌≡◌, ℕ, zero, suc, List, [], ◌∷◌, length, map, take, refl, ap, ◌∙◌}
use Rattle.std.proofs.lemmas.List.{length-map}
use Rattle.eval_tree.specs.declared.tree.Stmt.{Stmt}
use Rattle.eval_tree.specs.Tree.{StmtTree, Stmts, stmt, stmts, stmt_tree, stmts_tree}
use Rattle.jsstr_web.specs.Statements.{count_stmts, first_stmts}

pub first_of : (n : ℕ) (ss : List StmtTree) → stmts (take n ss) ≡ first_stmts n (stmts ss)
first_of zero ss = refl
first_of (suc n) [] = refl
first_of (suc n) (s ∷ ss) = ap (λ (r : Stmts). stmt s r) (first_of n ss)

pub count_is : (ss : List StmtTree) → count_stmts (stmts ss) ≡ length ss
count_is [] = refl
count_is (s ∷ ss) = ap suc (count_is ss)

pub count_body : (ss : List Stmt) → count_stmts (stmts_tree ss) ≡ length ss
count_body ss = count_is (map stmt_tree ss) ∙ length-map ss stmt_tree
