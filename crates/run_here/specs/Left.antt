-- What bindings a script leaves at the top.
use Rattle.std.specs.Prelude.{◌≡◌, ℕ, List, [], ◌∷◌, Option}
use Rattle.js_store.specs.State.{State}
use Rattle.eval_tree.specs.Tree.{Tree}
use Rattle.eval_scopes.specs.Bindings.{Bound}
use Rattle.js_item.specs.declared.item.Item.{Item}
use Rattle.js_eval.specs.Script.{Flow, meaning}
use Rattle.js_eval.specs.Seen.{bounds_seen}
use Rattle.heap_read.specs.declared.string.JsStr.{JsStr}
use Rattle.run_program.specs.declared.job.Outcome.{Outcome}
use Rattle.run_program.specs.Files.{IsOwnEnd}
use Rattle.run_program.specs.Jobs.{number}
use Rattle.run_program.specs.Meant.{left_by, prelude_meant}

-- what is meant by the script after the prelude, if there is one
abbrev pub script_by : ℕ → Option Tree → Tree → Flow
script_by limit prelude script = meaning script (left_by (prelude_meant limit prelude)) limit

-- Where the script was run and came to an end of its own, the bindings are those that it is meant to leave:
-- the same names, and values whose strings have in this store the units that are meant.
abbrev pub LeavesMeant : {F : Type 0} → State F → Flow → List (Bound (Item JsStr)) → List Outcome → Type 0
LeavesMeant s m bounds [] = Unit {0}
LeavesMeant s m bounds (outcome ∷ outcomes) =
    IsOwnEnd outcome.end → bounds_seen s number bounds ≡ m.bindings.top

-- the same between two moments
abbrev pub HasLeftFrom : {F : Type 0} → State F → State F → Option Tree → Tree → List (Bound (Item JsStr))
    → List Outcome → Type 0
HasLeftFrom a b prelude script bounds outcomes = LeavesMeant b (script_by a.limit prelude script) bounds
    outcomes
