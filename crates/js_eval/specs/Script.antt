-- What statements and a script mean: how they end, the lines that they print, and the bindings that they
-- leave.
use Rattle.std.specs.Option.{option_map_or}
use Rattle.std.specs.Prelude.{ℕ, zero, suc, ◌+◌, Bool, true, false, List, [], ◌∷◌, ◌++◌, length}
use Rattle.std.specs.Prelude.{if◌then◌else◌, Option, Some, None, pos}
use Rattle.js_number.specs.declared.Num.TheVariants.{Int}
use Rattle.js_json.specs.Printing.{line}
use Rattle.eval_tree.specs.declared.tree.Op.TheVariants.{Plus}
use Rattle.eval_tree.specs.Tree.{StmtTree, block, let_line, const_line, assign, append, print, if_line}
use Rattle.eval_tree.specs.Tree.{for_line, Stmts, no_stmts, stmt, BlockTree, block_of, Arms, no_arms, arm}
use Rattle.eval_tree.specs.Tree.{Tree}
use Rattle.eval_scopes.specs.Bindings.{Bound, Bindings, meant, written, declared, entered, turned, outer}
use Rattle.eval_values.specs.declared.value.Kind.TheVariants.{TypeError, ReferenceError}
use Rattle.js_item.specs.Seen.{Val}
use Rattle.js_item.specs.Contents.{undefined, number}
use Rattle.eval_values.specs.Outcome.{Out, gave, ended, threw, after_ledger, bind, converting, each, free}
use Rattle.eval_values.specs.Outcome.{cost, ledger_of, Ledger}
use Rattle.eval_values.specs.Need.{reads, parts}
use Rattle.eval_values.specs.Conversions.{to_string, to_boolean, string_units, text_units, all_units}
use Rattle.eval_values.specs.Conversions.{sum_over}
use Rattle.js_eval.specs.Initializers.{interned_out}
use Rattle.js_eval.specs.Expression.{EvalContext, read_out, operated, expr_out, exprs_out}

-- what statements come to: how they end and what they need, the lines that they print, and the bindings that
-- they leave
pub record Flow : Type 0 where
  pub out : Out (Unit {0})
  pub lines : List (List ℕ)
  pub bindings : Bindings Val

-- after these lines: where statements came to the end of themselves, what goes on from the bindings; where an
-- error or the profile ended them, nothing more
abbrev pub go_on : Out (Unit {0}) → List (List ℕ) → Bindings Val → (Bindings Val → Flow) → Flow
go_on (gave x l) ls bs go =
    record { out = after_ledger l (go bs).out; lines = ls ++ (go bs).lines; bindings = (go bs).bindings }
go_on (ended e l) ls bs go = record { out = ended e l; lines = ls; bindings = bs }

-- statements, and then others in the bindings that they leave
abbrev pub then_flow : Flow → (Bindings Val → Flow) → Flow
then_flow f go = go_on f.out f.lines f.bindings go

-- nothing but these bindings, and an end that leaves them
abbrev pub leaves : Bindings Val → Flow
leaves bs = record { out = gave tt free; lines = []; bindings = bs }

-- an expression, and then what has its value
abbrev pub on_value : {A : Type 0} → Out A → Bindings Val → (A → Flow) → Flow
on_value (gave v l) bs go =
    record { out = after_ledger l (go v).out; lines = (go v).lines; bindings = (go v).bindings }
on_value (ended e l) bs go = record { out = ended e l; lines = []; bindings = bs }

-- a name that means this gets a value ("PutValue"): ReferenceError where it has none, then TypeError where it
-- is constant
abbrev pub assigned : Option (Bound Val) → List ℕ → Val → Bindings Val → Flow
assigned None x v bs = record { out = ended (threw ReferenceError) free; lines = []; bindings = bs }
assigned (Some b) x v bs = if b.constant
    then record { out = ended (threw TypeError) free; lines = []; bindings = bs } else leaves (written bs x v)

-- the units of values of which the first ones were converted by ToString, up to one whose conversion throws
abbrev pub reached : Out (List ℕ) → ℕ → ℕ → ℕ
reached (gave u l) converted plain = converted
reached (ended e l) converted plain = plain

-- the same of all values: before the first whose conversion throws, the units of the strings; from it on,
-- those of the strings in the values
abbrev pub reached_units : ℕ → List Val → ℕ
reached_units limit [] = 0
reached_units limit (v ∷ vs) =
    reached (to_string limit v) (text_units v + reached_units limit vs) (string_units v + all_units vs)

-- the line of a `print`: all its arguments, then their strings
abbrev pub line_out : ℕ → List Val → Out (List ℕ)
line_out limit vs = converting (parts (length vs) (reached_units limit vs)) (each (to_string limit) vs)
    (λ us. gave (line us) (cost (parts (length vs) (sum_over text_units vs))))

-- the innermost block is left, whatever the end
abbrev pub left : Flow → Flow
left f = record { out = f.out; lines = f.lines; bindings = outer f.bindings }

-- n turns, the first one with the number i
unfoldable pub turns : (ℕ → Bindings Val → Flow) → ℕ → ℕ → Bindings Val → Flow
turns go i zero bs = leaves bs
turns go i (suc n) bs = then_flow (go i bs) (λ cs. turns go (i + 1) n cs)

-- the scope with other bindings
abbrev pub with_bindings : EvalContext → Bindings Val → EvalContext
with_bindings s bs = record { literals = s.literals; bindings = bs; limit = s.limit }

-- a declaration with its value
abbrev pub declares : List ℕ → Bool → EvalContext → Val → Flow
declares x constant s v = leaves (declared s.bindings (record { name = x; constant = constant; value = v }))

abbrev mutual
  -- what a statement comes to in a scope ("Evaluation" of "StatementListItem")
  pub stmt_flow : StmtTree → EvalContext → Flow
  stmt_flow (block b) s = block_flow b s
  stmt_flow (let_line at x init) s = on_value (option_map_or (λ e. expr_out e s) init (gave undefined free))
      s.bindings (λ v. declares x false s v)
  stmt_flow (const_line at x e) s = on_value (expr_out e s) s.bindings (λ v. declares x true s v)
  stmt_flow (assign at x e) s =
      on_value (expr_out e s) s.bindings (λ v. assigned (meant s.bindings x) x v s.bindings)
  -- `x += e`: what the name means is read first
  stmt_flow (append at name_at x e) s = on_value
      (bind (read_out (meant s.bindings x)) (λ v. bind (expr_out e s) (λ w. operated Plus at s.limit v w)))
      s.bindings (λ v. assigned (meant s.bindings x) x v s.bindings)
  -- the arguments are evaluated from left to right
  stmt_flow (print args) s = on_value (bind (exprs_out args s) (λ vs. line_out s.limit vs)) s.bindings
      (λ l. record { out = gave tt free; lines = l ∷ []; bindings = s.bindings })
  stmt_flow (if_line arms rest) s = arms_flow arms (λ q. block_flow rest q) s
  stmt_flow (for_line x n b) s = turns
      (λ i cs. left (block_flow b (with_bindings s (turned x (number (Int (pos i))) cs)))) 0 n s.bindings

  -- statements one after another, each in the bindings that those before it left
  pub stmts_flow : Stmts → EvalContext → Flow
  stmts_flow no_stmts s = leaves s.bindings
  stmts_flow (stmt first rest) s = then_flow (stmt_flow first s) (λ cs. stmts_flow rest (with_bindings s cs))

  -- a block: its names are declared, its statements run, and it is left ("Block")
  pub block_flow : BlockTree → EvalContext → Flow
  block_flow (block_of names body) s = left (stmts_flow body (with_bindings s (entered names s.bindings)))

  -- the first arm whose test holds, or else what follows
  pub arms_flow : Arms → (EvalContext → Flow) → EvalContext → Flow
  arms_flow no_arms rest s = rest s
  arms_flow (arm test b more) rest s = on_value (expr_out test s) s.bindings
      (λ v. if to_boolean v then block_flow b s else arms_flow more rest s)

-- one turn of a `for`
abbrev pub turn_flow : List ℕ → BlockTree → EvalContext → ℕ → Bindings Val → Flow
turn_flow x b s i bs = left (block_flow b (with_bindings s (turned x (number (Int (pos i))) bs)))

-- the bindings of the top
abbrev pub with_top : List (Bound Val) → Bindings Val
with_top top = record { blocks = []; top = top }

-- the meaning of a script that begins with these bindings of the top, where strings have at most `limit`
-- units: its literals are interned first (no source text spells one past the limit)
abbrev pub meaning : Tree → List (Bound Val) → ℕ → Flow
meaning t top limit = on_value (each (λ u. interned_out limit (reads (length u)) u) t.literals) (with_top top)
    (λ ls. stmts_flow t.body (record { literals = ls; bindings = with_top top; limit = limit }))

-- what a meaning interns, in order; the strings that its expressions gave; and what it needs of a store at
-- most
abbrev pub flow_ledger : Flow → Ledger
flow_ledger m = ledger_of m.out
