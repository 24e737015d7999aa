-- Helpers: no public contract reaches these definitions.
-- How a script ends and what it prints, and short forms for its tree.
use Rattle.std.specs.Prelude.{ℕ, List, []}
use Rattle.std.specs.List.{concat}
use Rattle.eval_tree.specs.declared.tree.Op.{Op}
use Rattle.eval_tree.specs.Tree.{ExprTree, LinkTree, StmtTree, stmts, BlockTree, block_of, ArmTree, Tree}
use Rattle.js_store.specs.Limits.{limit_units}
use Rattle.js_store.specs.declared.limit.Limit.TheVariants.{Bits64}
use Rattle.js_eval.specs.declared.ending.End.{End}
use Rattle.js_eval.specs.Evaluates.{script_end}
use Rattle.js_eval.specs.Script.{Flow, meaning}

-- the end and the bytes of a meaning
abbrev pub end_and_bytes : Flow → End × List ℕ
end_and_bytes m = (script_end m.out, concat m.lines)

-- how a script that is run by itself ends, and the bytes that it prints
abbrev pub means : Tree → End × List ℕ
means t = end_and_bytes (meaning t [] (limit_units Bits64))

-- a script with these literals, these statements, and these names at its top
abbrev pub script : List (List ℕ) → List StmtTree → List (List ℕ) → Tree
script literals body top = record { literals = literals; body = stmts body; top = top }

-- a block that declares these names directly, with its statements
abbrev pub inside : List (List ℕ) → List StmtTree → BlockTree
inside names body = block_of names (stmts body)

-- a condition and its block
abbrev pub when : ExprTree → BlockTree → ArmTree
when test body = record { test = test; body = body }

-- an operator and the operand on its right
abbrev pub to : ℕ → Op → ExprTree → LinkTree
to at op right = record { at = at; op = op; right = right }

-- a key and its value
abbrev pub member : List ℕ → ExprTree → List ℕ × ExprTree
member key value = (key, value)
