use Rattle.std.proofs.Common.{◌≡◌, List, map, take, sym, ap, ◌∙◌}
use Rattle.std.proofs.lemmas.List.{take-map}
use Rattle.eval_tree.specs.declared.tree.Stmt.{Stmt}
use Rattle.eval_tree.specs.Tree.{Stmts, StmtTree, Tree, stmt_tree, stmts}
use Rattle.jsstr_web.proofs.First.{first_of}
use Rattle.jsstr_web.proofs.script.first_statements.Goals as goal

pub returns : goal.returns
returns c = let s = c.args.script in let most = c.args.most in
    ap (λ (b : Stmts). record { literals = s.literals.items; body = b; top = s.top })
    (ap (λ (ss : List Stmt). stmts (map stmt_tree ss)) c.truncate.ensures.items ∙ (ap stmts (sym (take-map stmt_tree most s.body.items)) ∙ first_of most (map stmt_tree s.body.items)))
