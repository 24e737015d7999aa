-- Helpers: no public contract reaches these definitions.
-- Parts of what statements mean, by names, for the contracts of private functions and for proofs.
use Rattle.std.specs.Prelude.{ℕ, List, [], ◌∷◌, length, Option}
use Rattle.std.specs.Option.{option_map_or}
use Rattle.eval_tree.specs.declared.tree.Op.TheVariants.{Plus}
use Rattle.eval_tree.specs.Tree.{ExprTree}
use Rattle.eval_scopes.specs.Bindings.{Bindings, meant}
use Rattle.js_item.specs.Contents.{undefined}
use Rattle.js_item.specs.Seen.{Val}
use Rattle.eval_values.specs.Outcome.{Out, gave, bind, free}
use Rattle.eval_values.specs.Need.{reads}
use Rattle.js_eval.specs.Initializers.{interned_out}
use Rattle.js_eval.specs.Expression.{EvalContext, read_out, operated, expr_out}
use Rattle.js_eval.specs.Script.{Flow}

-- one line
abbrev pub printed : List ℕ → Bindings Val → Flow
printed l bs = record { out = gave tt free; lines = l ∷ []; bindings = bs }

-- `x += e`: what the name means is read first
abbrev pub sum_of_both : ℕ → List ℕ → ExprTree → EvalContext → Out Val
sum_of_both at x e s =
    bind (read_out (meant s.bindings x)) (λ v. bind (expr_out e s) (λ w. operated Plus at s.limit v w))

-- the value of a `let`
abbrev pub init_out : Option ExprTree → EvalContext → Out Val
init_out init s = option_map_or (λ e. expr_out e s) init (gave undefined free)

-- a literal is interned
abbrev pub literal_out : ℕ → List ℕ → Out (List ℕ)
literal_out limit u = interned_out limit (reads (length u)) u
