-- What is meant to be reported: every file ends and prints as ECMA-262 says of it, each script after the
-- prelude.
use Rattle.std.specs.Prelude.{ℕ, List, ◌++◌, map, Option, flat_map}
use Rattle.std.specs.Option.{option_map_or}
use Rattle.std.specs.List.{concat}
use Rattle.eval_tree.specs.Tree.{Tree}
use Rattle.js_eval.specs.declared.ending.End.{End}
use Rattle.js_eval.specs.Evaluates.{script_end}
use Rattle.js_eval.specs.Script.{Flow}
use Rattle.run_program.specs.Fits.{after_prelude}
use Rattle.run_command.specs.Words.{Request}
use Rattle.run_sources.specs.Program.{Program}
use Rattle.js_run.specs.Verdict.{count_line, status_of}
use Rattle.js_store.specs.Limits.{limit_units}
use Rattle.run_program.specs.Meant.{prelude_meant, scripts_meant}
use Rattle.run_program.specs.Ran.{flows_meant}

-- what all files mean that are meant to be run, the prelude first
abbrev pub all_flows : Request → Program Tree → List Flow
all_flows request trees = flows_meant (limit_units request.limit) trees.prelude trees.scripts

-- what the scripts mean that are meant to be run: none where the prelude isn't meant to end Done
abbrev pub run_after : Option Flow → List Flow → List Flow
run_after prelude scripts = option_map_or (λ p. after_prelude p.out scripts) prelude scripts

-- how files are meant to end
abbrev pub ends_meant : List Flow → List End
ends_meant flows = map (λ m. script_end m.out) flows

-- the status that is meant: 0 where all files are meant to end Done, else 1
abbrev pub status_meant : Request → Program Tree → ℕ
status_meant request trees = status_of (ends_meant (all_flows request trees))

-- what the scripts are meant to print, with the line `interned N` of this number, where there is one
abbrev pub out_meant : Request → Program Tree → Option ℕ → List ℕ
out_meant request trees interned = flat_map (λ m. concat m.lines) (run_after
    (prelude_meant (limit_units request.limit) trees.prelude)
    (scripts_meant (limit_units request.limit) trees.prelude trees.scripts)) ++ count_line interned
