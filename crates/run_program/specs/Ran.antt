-- What came of a prelude and scripts that were run on a heap of their own.
use Rattle.std.specs.Prelude.{◌≡◌, ℕ, List, map, Option, Some, None, option_to_list, ◌++◌}
use Rattle.std.specs.Prelude.{if◌then◌else◌, is_some}
use Rattle.std.specs.Borrow.{Bor}
use Rattle.js_store.specs.Limits.{limit_units}
use Rattle.js_store.specs.State.{State, StoreSizes}
use Rattle.js_eval.specs.Script.{Flow}
use Rattle.eval_tree.specs.declared.tree.Script.{Script}
use Rattle.eval_tree.specs.Tree.{Tree, tree_of}
use Rattle.heap_table.specs.Agents.{Belongs, view_of}
use Rattle.heap_intern.specs.Counting.{different}
use Rattle.heap_session.specs.Sessions.{SessionFrame, state_by, table_of}
use Rattle.run_program.specs.Fits.{all_meant}
use Rattle.run_program.specs.Jobs.{RunFile}
use Rattle.run_program.specs.Files.{AreFilesOf, outcomes_of}
use Rattle.run_program.specs.Tells.{FilesTell}
use Rattle.run_program.specs.Kept.{HeapKept}
use Rattle.run_program.specs.declared.ran.Ran.{Ran}
use Rattle.run_program.specs.declared.ran.Setup.{Setup}
use Rattle.run_program.specs.Meant.{prelude_meant, scripts_meant}

-- the sizes of the heap that is to be made, as a store reports them
abbrev pub setup_sizes : Setup → StoreSizes
setup_sizes setup = record { ids = setup.size.ids; words = setup.size.words; slots = setup.size.slots }

-- what the kept agent knows and has, as a store reports it
abbrev pub state_kept : Setup → HeapKept → State SessionFrame
state_kept setup kept = state_by (view_of kept.agent) (limit_units setup.limit) (table_of kept.heap)

abbrev pub tree_if : Option (Bor Script) → Option Tree
tree_if None = None
tree_if (Some script) = Some (tree_of script.now)

abbrev pub trees_of : List Script → List Tree
trees_of scripts = map tree_of scripts

-- what all files mean, the prelude first
abbrev pub flows_meant : ℕ → Option Tree → List Tree → List Flow
flows_meant limit prelude scripts =
    all_meant (prelude_meant limit prelude) (scripts_meant limit prelude scripts)

-- Files with these meanings were run on the kept heap, which was made with these sizes, and nothing else was
-- done there: the prelude first, from no bindings, and where it ended Done each of the scripts, from the
-- bindings that the prelude is meant to leave.
pub record IsRan (setup : Setup) (prelude : Option Tree) (scripts : List Tree) (ran : Ran) : Type 0 where
  pub files : List RunFile
  pub are : AreFilesOf (prelude_meant (limit_units setup.limit) prelude)
      (scripts_meant (limit_units setup.limit) prelude scripts) files
  pub came : outcomes_of files ≡ option_to_list ran.prelude ++ ran.scripts.items
  -- there is an outcome of the prelude exactly where there is a prelude
  pub has_prelude : is_some prelude ≡ is_some ran.prelude
  -- what each came to, and what the agent says of the heap
  pub tells : FilesTell (state_kept setup ran.kept)
      (flows_meant (limit_units setup.limit) prelude scripts) files
  -- the heap of these sizes, and an agent of it with the whole share, which has seen both counters where they
  -- are
  pub sizes : ran.kept.heap.size ≡ setup.size
  pub belongs : Belongs ran.kept.agent ran.kept.heap
  pub agents : (view_of ran.kept.agent).agents ≡ setup.jobs
  pub whole : (view_of ran.kept.agent).share ≡ setup.jobs
  pub seen : (view_of ran.kept.agent).low ≡ (view_of ran.kept.agent).used
  -- the number of different lists in the history, where it is asked for
  pub interned : ran.interned
      ≡ (if setup.count then Some (different (state_kept setup ran.kept).history) else None)
