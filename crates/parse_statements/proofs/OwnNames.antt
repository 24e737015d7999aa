-- The names that statements declare, one statement after the other.
use Rattle.std.proofs.Common.{◌≡◌, ℕ, ◌+◌, ◌<◌, List, [], ◌∷◌, ◌++◌, length, map, take, get_or, sym, ap, ◌∙◌, append_assoc, append-nil}
use Rattle.std.proofs.lemmas.List.{map_push, take_more}
use Rattle.eval_tree.specs.declared.tree.Stmt.{Stmt}
use Rattle.eval_tree.specs.Tree.{StmtTree, stmt_tree}
use Rattle.parse_syntax.specs.Grammar.{own_name, own_names}

own_names_push : (xs : List StmtTree) (x : StmtTree) → own_names (xs ++ x ∷ []) ≡ own_names xs ++ own_name x
own_names_push [] x = append-nil (own_name x)
own_names_push (y ∷ xs) x = ap (λ l. own_name y ++ l) (own_names_push xs x) ∙ sym (append_assoc (own_name y) (own_names xs) (own_name x))

pub one_more : (body : List Stmt) (i : ℕ) (stmt : Stmt) → i < length body → stmt ≡ get_or body i stmt → own_names
    (map stmt_tree (take (i + 1) body)) ≡ own_names (map stmt_tree (take i body)) ++ own_name (stmt_tree stmt)
one_more body i stmt lt is =
    ap (λ l. own_names (map stmt_tree l)) (take_more body i stmt lt ∙ ap (λ s. take i body ++ s ∷ []) (sym is))
    ∙ ap own_names (map_push stmt_tree (take i body) stmt)
    ∙ own_names_push (map stmt_tree (take i body)) (stmt_tree stmt)
