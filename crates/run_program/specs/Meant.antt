-- What is meant by a prelude, if there is one, and by scripts that begin with the bindings which the prelude
-- is meant to leave.
use Rattle.std.specs.Option.{option_map_or}
use Rattle.std.specs.Prelude.{ℕ, List, [], map, Option, option_map}
use Rattle.eval_tree.specs.Tree.{Tree}
use Rattle.eval_scopes.specs.Bindings.{Bound}
use Rattle.js_item.specs.Seen.{Val}
use Rattle.js_eval.specs.Script.{Flow, meaning}

-- the prelude begins with no bindings
abbrev pub prelude_meant : ℕ → Option Tree → Option Flow
prelude_meant limit prelude = option_map (λ tree. meaning tree [] limit) prelude

-- the bindings at the top that are left then; none without a prelude
abbrev pub left_by : Option Flow → List (Bound Val)
left_by prelude = option_map_or (λ flow. flow.bindings.top) prelude []

-- each script by itself, from those bindings
abbrev pub scripts_meant : ℕ → Option Tree → List Tree → List Flow
scripts_meant limit prelude scripts =
    map (λ tree. meaning tree (left_by (prelude_meant limit prelude)) limit) scripts
