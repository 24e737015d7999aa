-- The first statements of a script.
use Rattle.std.specs.Prelude.{ℕ, zero, suc}
use Rattle.eval_tree.specs.Tree.{Stmts, no_stmts, stmt, Tree}

-- at most the first so many statements
abbrev pub first_stmts : ℕ → Stmts → Stmts
first_stmts zero rest = no_stmts
first_stmts (suc n) no_stmts = no_stmts
first_stmts (suc n) (stmt s rest) = stmt s (first_stmts n rest)

-- the script with these alone; its literals and the names at its top stay
abbrev pub shortened : ℕ → Tree → Tree
shortened n t = record { literals = t.literals; body = first_stmts n t.body; top = t.top }

abbrev pub count_stmts : Stmts → ℕ
count_stmts no_stmts = 0
count_stmts (stmt s rest) = suc (count_stmts rest)

-- how many statements a script has at its top
abbrev pub count_of : Tree → ℕ
count_of t = count_stmts t.body
