-- The laws by which files come to be run on one heap.
use Rattle.std.specs.Prelude.{◌≡◌, ℕ, List, [], ◌∷◌, ◌++◌, None}
use Rattle.atomic_table.specs.Seated.{TableId}
use Rattle.js_store.specs.State.{State, Grows}
use Rattle.js_store.specs.Faults.{StoreStep}
use Rattle.eval_scopes.specs.Bindings.{Bound}
use Rattle.eval_tree.specs.declared.tree.Script.{Script}
use Rattle.eval_tree.specs.Tree.{tree_of}
use Rattle.js_item.specs.Seen.{Val}
use Rattle.js_eval.specs.Evaluates.{Evaluates}
use Rattle.js_eval.specs.Script.{Flow, meaning}
use Rattle.heap_rule.specs.Agents.{first_view}
use Rattle.heap_rule.specs.declared.size.HeapSize.{HeapSize}
use Rattle.heap_session.specs.Sessions.{SessionFrame, state_by}
use Rattle.heap_session.specs.Shares.{total_by}
use Rattle.heap_session.specs.Whole.{HasWholeCounts}
use Rattle.run_program.specs.declared.job.Job.{Job}
use Rattle.run_program.specs.declared.job.Outcome.{Outcome}
use Rattle.run_program.specs.Jobs.{JobUse, RunFile, RanJobs}
use Rattle.run_program.specs.Files.{WereRun, AreJobs}

-- on a heap that was just made no file was run
abbrev pub NoneRun : Type 0
NoneRun = (z : HeapSize) (agents limit : ℕ) (table : TableId) →
    let s : State SessionFrame = state_by (first_view z agents) limit table in WereRun s []

-- after some files a script was evaluated, without a line before
abbrev pub ScriptRun : Type 0
ScriptRun = (s t : State SessionFrame) (files : List RunFile) (script : Script) (top after : List (Bound Val))
    (o : Outcome)
    → WereRun s files → Grows s t
    → Evaluates s t [] o.lines after o.end (meaning (tree_of script) top s.limit)
    → (part : JobUse) × WereRun t (files
    ++ (record { mean = meaning (tree_of script) top s.limit; outcome = o; part = part } ∷ []))

-- after some files jobs were run
abbrev pub JobsRun : Type 0
JobsRun = (s t : State SessionFrame) (files : List RunFile) (mean : Job → Flow) (jobs : List Job)
    (outcomes : List Outcome)
    → WereRun s files → RanJobs mean s t jobs outcomes
    → (more : List RunFile) × AreJobs mean jobs outcomes more × WereRun t (files ++ more)

-- a call that uses nothing and interns nothing, and the reading of both counters, leave what was run
abbrev pub StaysRun : Type 0
StaysRun = (s t : State SessionFrame) (files : List RunFile) → WereRun s files
    → StoreStep s t None 0 0 → t.history ≡ s.history
    → WereRun t files

abbrev pub TotalsRun : Type 0
TotalsRun = (s : State SessionFrame) (files : List RunFile) → HasWholeCounts s
    → WereRun s files
    → WereRun (total_by s) files
