-- The early errors on names, over the tree of a script (ECMA-262, "Static Semantics: Early Errors" of blocks
-- and scripts, and the profile's own rule that the name of a `for` isn't assigned).
use Rattle.std.specs.Prelude.{◌≡◌, ℕ, List, [], ◌∷◌, ◌++◌}
use Rattle.eval_tree.specs.Tree.{ExprTree, StmtTree, BlockTree, block_of, Stmts, stmt, Arms, arm}
use Rattle.eval_tree.specs.Tree.{block, let_line, const_line, assign, append, if_line, for_line}
use Rattle.parse_syntax.specs.Grammar.{own_name}
use Rattle.std.specs.Prelude.{Option}

-- a name is one of these
pub data IsAmong (x : List ℕ) : List (List ℕ) → Type 0 where
  first : (xs : List (List ℕ)) → IsAmong x (x ∷ xs)
  later : (y : List ℕ) (xs : List (List ℕ)) → IsAmong x xs → IsAmong x (y ∷ xs)

-- a block with the names that it declares, or the scope of a `for` with its name
pub data NameScope : Type 0 where
  Declaring : List (List ℕ) → NameScope
  Looping : List ℕ → NameScope

-- of these scopes, the innermost first, the innermost one that declares the name is that of a `for`
pub data IsLoopName (x : List ℕ) : List NameScope → Type 0 where
  here : (rest : List NameScope) → IsLoopName x (Looping x ∷ rest)
  outside : (names : List (List ℕ)) (rest : List NameScope) → (IsAmong x names → ⊥) → IsLoopName x rest
      → IsLoopName x (Declaring names ∷ rest)
  around : (y : List ℕ) (rest : List NameScope) → (x ≡ y → ⊥) → IsLoopName x rest
      → IsLoopName x (Looping y ∷ rest)

-- a fault, with the offset of the name or of the key
pub data NameFault : Type 0 where
  Duplicate LoopName ProtoKey : ℕ → NameFault

mutual
  -- within these scopes, a statement has the fault
  pub data FaultIn : List NameScope → StmtTree → NameFault → Type 0 where
    inside : (scopes : List NameScope) (b : BlockTree) (f : NameFault) → FaultInBlock scopes b f
        → FaultIn scopes (block b) f
    assigned : (scopes : List NameScope) (at : ℕ) (x : List ℕ) (e : ExprTree) → IsLoopName x scopes
        → FaultIn scopes (assign at x e) (LoopName at)
    appended : (scopes : List NameScope) (at name_at : ℕ) (x : List ℕ) (e : ExprTree) → IsLoopName x scopes
        → FaultIn scopes (append at name_at x e) (LoopName name_at)
    in_arms : (scopes : List NameScope) (arms : Arms) (rest : BlockTree) (f : NameFault)
        → FaultInArms scopes arms f → FaultIn scopes (if_line arms rest) f
    in_rest : (scopes : List NameScope) (arms : Arms) (rest : BlockTree) (f : NameFault)
        → FaultInBlock scopes rest f → FaultIn scopes (if_line arms rest) f
    in_loop : (scopes : List NameScope) (x : List ℕ) (bound : ℕ) (body : BlockTree) (f : NameFault)
        → FaultInBlock (Looping x ∷ scopes) body f → FaultIn scopes (for_line x bound body) f

  -- within these scopes, a block has the fault: one of its statements has it, in the block's own scope
  pub data FaultInBlock : List NameScope → BlockTree → NameFault → Type 0 where
    among : (scopes : List NameScope) (names : List (List ℕ)) (body : Stmts) (f : NameFault)
        → FaultAmong (Declaring names ∷ scopes) [] body f → FaultInBlock scopes (block_of names body) f

  -- within these scopes, the block of one of the arms has the fault
  pub data FaultInArms : List NameScope → Arms → NameFault → Type 0 where
    in_first : (scopes : List NameScope) (test : ExprTree) (body : BlockTree) (rest : Arms) (f : NameFault)
        → FaultInBlock scopes body f → FaultInArms scopes (arm test body rest) f
    in_others : (scopes : List NameScope) (test : ExprTree) (body : BlockTree) (rest : Arms) (f : NameFault)
        → FaultInArms scopes rest f → FaultInArms scopes (arm test body rest) f

  -- among statements of one block, behind which these names were declared before
  pub data FaultAmong : List NameScope → List (List ℕ) → Stmts → NameFault → Type 0 where
    let_again : (scopes : List NameScope) (before : List (List ℕ)) (at : ℕ) (x : List ℕ)
        (init : Option ExprTree) (rest : Stmts) → IsAmong x before
        → FaultAmong scopes before (stmt (let_line at x init) rest) (Duplicate at)
    const_again : (scopes : List NameScope) (before : List (List ℕ)) (at : ℕ) (x : List ℕ) (init : ExprTree)
        (rest : Stmts) → IsAmong x before
        → FaultAmong scopes before (stmt (const_line at x init) rest) (Duplicate at)
    in_it : (scopes : List NameScope) (before : List (List ℕ)) (s : StmtTree) (rest : Stmts) (f : NameFault)
        → FaultIn scopes s f → FaultAmong scopes before (stmt s rest) f
    behind_it : (scopes : List NameScope) (before : List (List ℕ)) (s : StmtTree) (rest : Stmts)
        (f : NameFault) → FaultAmong scopes (own_name s ++ before) rest f
        → FaultAmong scopes before (stmt s rest) f
