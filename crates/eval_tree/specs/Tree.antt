-- The tree of a script, with lists in the place of vectors and without boxes. Each kind of list in the tree
-- is a type of its own, since a data type can't hold a list of itself.
use Rattle.std.specs.Prelude.{ℕ, Bool, List, [], ◌∷◌, map, Option, Some, None}
use Rattle.eval_tree.specs.declared.tree.Op.{Op}
use Rattle.eval_tree.specs.declared.tree.Method.{Method}
use Rattle.eval_tree.specs.declared.tree.Builtin.{Builtin}
use Rattle.eval_tree.specs.declared.tree.Expr.{Expr, fold-Expr}
use Rattle.eval_tree.specs.declared.tree.Link.{Link}
use Rattle.eval_tree.specs.declared.tree.PostStep.{PostStep, fold-PostStep}
use Rattle.eval_tree.specs.declared.tree.Expr.TheOpen.{Expr-F, Link-F, PostStep-F}
use Rattle.eval_tree.specs.declared.tree.Stmt.{Stmt, fold-Stmt}
use Rattle.eval_tree.specs.declared.tree.Arm.{Arm, fold-Arm}
use Rattle.eval_tree.specs.declared.tree.Block.{Block, fold-Block}
use Rattle.eval_tree.specs.declared.tree.Stmt.TheOpen.{Stmt-F, Arm-F, Block-F}
use Rattle.eval_tree.specs.declared.tree.Script.{Script}

mutual
  -- an expression: a literal by its number among the script's literals, a value, a variable, an operator's
  -- expression, or an operand with steps
  pub data ExprTree : Type 0 where
    literal : (number : ℕ) → ExprTree
    number : (value : ℕ) → ExprTree
    variable : (name : List ℕ) → ExprTree
    undefined null : ExprTree
    bool : (value : Bool) → ExprTree
    nan infinity : ExprTree
    unary : (at : ℕ) (minus : Bool) (of : ExprTree) → ExprTree
    chain : (first : ExprTree) (rest : Links) → ExprTree
    conditional : (test yes no : ExprTree) → ExprTree
    post : (of : ExprTree) (steps : StepList) → ExprTree
    builtin : (at : ℕ) (which : Builtin) (args : Exprs) → ExprTree
    object : (at : ℕ) (members : Entries) → ExprTree

  -- the operators of one level with their right sides, from left to right
  pub data Links : Type 0 where
    no_links : Links
    link : (at : ℕ) (op : Op) (right : ExprTree) (rest : Links) → Links

  -- what follows an operand, from left to right: reads of properties, calls of methods, and indexes
  pub data StepList : Type 0 where
    no_steps : StepList
    length_step description_step : (rest : StepList) → StepList
    call_step : (at : ℕ) (method : Method) (args : Exprs) (rest : StepList) → StepList
    index_step : (at : ℕ) (index : ExprTree) (rest : StepList) → StepList
    property_step : (at : ℕ) (key : List ℕ) (rest : StepList) → StepList

  -- a list of expressions, as the arguments of a call
  pub data Exprs : Type 0 where
    no_exprs : Exprs
    expr : (first : ExprTree) (rest : Exprs) → Exprs

  -- the members of an object literal
  pub data Entries : Type 0 where
    no_entries : Entries
    entry : (key : List ℕ) (value : ExprTree) (rest : Entries) → Entries

-- a link, and a step, as plain values
pub record LinkTree : Type 0 where
  pub at : ℕ
  pub op : Op
  pub right : ExprTree

-- a step as a plain value: a read of length or description, a call of a method, an index, or a read of
-- another property
pub data StepTree : Type 0 where
  of_length of_description : StepTree
  of_call : (at : ℕ) (method : Method) (args : Exprs) → StepTree
  of_index : (at : ℕ) (index : ExprTree) → StepTree
  of_property : (at : ℕ) (key : List ℕ) → StepTree

-- the operators in the order of the list
abbrev pub links : List LinkTree → Links
links [] = no_links
links (l ∷ ls) = link l.at l.op l.right (links ls)

-- one step before others
abbrev pub with_step : StepTree → StepList → StepList
with_step of_length rest = length_step rest
with_step of_description rest = description_step rest
with_step (of_call at method args) rest = call_step at method args rest
with_step (of_index at index) rest = index_step at index rest
with_step (of_property at key) rest = property_step at key rest

-- the steps in the order of the list
abbrev pub steps : List StepTree → StepList
steps [] = no_steps
steps (s ∷ ss) = with_step s (steps ss)

-- the expressions in the order of the list
abbrev pub exprs : List ExprTree → Exprs
exprs [] = no_exprs
exprs (t ∷ ts) = expr t (exprs ts)

-- the members of an object literal in the order of the list
abbrev pub entries : List (List ℕ × ExprTree) → Entries
entries [] = no_entries
entries (m ∷ ms) = entry m.0 m.1 (entries ms)

-- the tree of an expression, layer by layer
abbrev pub expr_layer : Expr-F ExprTree StepTree LinkTree → ExprTree
expr_layer (Expr-F.Literal n) = literal n
expr_layer (Expr-F.Number n) = number n
expr_layer (Expr-F.Variable name) = variable name
expr_layer Expr-F.Undefined = undefined
expr_layer Expr-F.Null = null
expr_layer (Expr-F.Bool b) = bool b
expr_layer Expr-F.NaN = nan
expr_layer Expr-F.Infinity = infinity
expr_layer (Expr-F.Unary at minus of) = unary at minus of.value
expr_layer (Expr-F.Chain first rest) = chain first.value (links rest.items)
expr_layer (Expr-F.Cond test then other) = conditional test.value then.value other.value
expr_layer (Expr-F.Post of ss) = post of.value (steps ss.items)
expr_layer (Expr-F.Builtin at which args) = builtin at which (exprs args.items)
expr_layer (Expr-F.Object at members) = object at (entries members.items)

abbrev pub step_layer : PostStep-F ExprTree StepTree LinkTree → StepTree
step_layer PostStep-F.Length = of_length
step_layer PostStep-F.Description = of_description
step_layer (PostStep-F.Call at method args) = of_call at method (exprs args.items)
step_layer (PostStep-F.Index at index) = of_index at index
step_layer (PostStep-F.Property at key) = of_property at key

abbrev pub link_layer : Link-F ExprTree StepTree LinkTree → LinkTree
link_layer l = record { at = l.at; op = l.op; right = l.right }

abbrev pub expr_tree : Expr → ExprTree
expr_tree = fold-Expr ExprTree StepTree LinkTree expr_layer step_layer link_layer

abbrev pub step_tree : PostStep → StepTree
step_tree = fold-PostStep ExprTree StepTree LinkTree expr_layer step_layer link_layer

abbrev pub link_tree : Link → LinkTree
link_tree l = record { at = l.at; op = l.op; right = expr_tree l.right }

abbrev pub links_tree : List Link → Links
links_tree ls = links (map link_tree ls)

abbrev pub steps_tree : List PostStep → StepList
steps_tree ss = steps (map step_tree ss)

abbrev pub exprs_tree : List Expr → Exprs
exprs_tree es = exprs (map expr_tree es)

-- a member as a plain value, and the members of an object literal
abbrev pub entry_tree : List ℕ × Expr → List ℕ × ExprTree
entry_tree m = (m.0, expr_tree m.1)

abbrev pub entries_tree : List (List ℕ × Expr) → Entries
entries_tree ms = entries (map entry_tree ms)

abbrev pub init_tree : Option Expr → Option ExprTree
init_tree None = None
init_tree (Some e) = Some (expr_tree e)

-- statements

mutual
  -- a statement, with the offset of each name that it declares or assigns
  pub data StmtTree : Type 0 where
    block : (inner : BlockTree) → StmtTree
    let_line : (at : ℕ) (name : List ℕ) (init : Option ExprTree) → StmtTree
    const_line : (at : ℕ) (name : List ℕ) (init : ExprTree) → StmtTree
    assign : (at : ℕ) (name : List ℕ) (value : ExprTree) → StmtTree
    append : (at name_at : ℕ) (name : List ℕ) (value : ExprTree) → StmtTree
    print : (args : Exprs) → StmtTree
    if_line : (arms : Arms) (rest : BlockTree) → StmtTree
    for_line : (name : List ℕ) (bound : ℕ) (body : BlockTree) → StmtTree

  -- the names that are declared directly in it, and its statements
  pub data BlockTree : Type 0 where
    block_of : (names : List (List ℕ)) (body : Stmts) → BlockTree

  -- the statements of a block or of a script, in source order
  pub data Stmts : Type 0 where
    no_stmts : Stmts
    stmt : (first : StmtTree) (rest : Stmts) → Stmts

  -- the conditions of an if statement in source order, each with the block that it guards
  pub data Arms : Type 0 where
    no_arms : Arms
    arm : (test : ExprTree) (body : BlockTree) (rest : Arms) → Arms

-- an arm as a plain value
pub record ArmTree : Type 0 where
  pub test : ExprTree
  pub body : BlockTree

-- the statements in the order of the list
abbrev pub stmts : List StmtTree → Stmts
stmts [] = no_stmts
stmts (s ∷ ss) = stmt s (stmts ss)

-- the arms in the order of the list
abbrev pub arms : List ArmTree → Arms
arms [] = no_arms
arms (a ∷ more) = arm a.test a.body (arms more)

abbrev pub stmt_layer : Stmt-F StmtTree ArmTree BlockTree → StmtTree
stmt_layer (Stmt-F.Block inner) = block inner
stmt_layer (Stmt-F.Let at name init) = let_line at name (init_tree init)
stmt_layer (Stmt-F.Const at name init) = const_line at name (expr_tree init)
stmt_layer (Stmt-F.Assign at name value) = assign at name (expr_tree value)
stmt_layer (Stmt-F.Append at name_at name value) = append at name_at name (expr_tree value)
stmt_layer (Stmt-F.Print args) = print (exprs_tree args.items)
stmt_layer (Stmt-F.If tests rest) = if_line (arms tests.items) rest
stmt_layer (Stmt-F.For name bound body) = for_line name bound body

abbrev pub arm_layer : Arm-F StmtTree ArmTree BlockTree → ArmTree
arm_layer a = record { test = expr_tree a.test; body = a.body }

abbrev pub block_layer : Block-F StmtTree ArmTree BlockTree → BlockTree
block_layer b = block_of b.names (stmts b.body.items)

abbrev pub stmt_tree : Stmt → StmtTree
stmt_tree = fold-Stmt StmtTree ArmTree BlockTree stmt_layer arm_layer block_layer

abbrev pub arm_tree : Arm → ArmTree
arm_tree = fold-Arm StmtTree ArmTree BlockTree stmt_layer arm_layer block_layer

abbrev pub block_tree : Block → BlockTree
block_tree = fold-Block StmtTree ArmTree BlockTree stmt_layer arm_layer block_layer

abbrev pub stmts_tree : List Stmt → Stmts
stmts_tree ss = stmts (map stmt_tree ss)

-- a script: its literals in source order, its statements, and the names that it declares at its top
pub record Tree : Type 0 where
  pub literals : List (List ℕ)
  pub body : Stmts
  pub top : List (List ℕ)

abbrev pub tree_of : Script → Tree
tree_of s = record { literals = s.literals.items; body = stmts_tree s.body.items; top = s.top }
