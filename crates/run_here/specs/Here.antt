-- What came of a prelude and a script that were run on a heap of their own without a thread.
use Rattle.std.specs.Prelude.{[], ◌∷◌, Option, false}
use Rattle.js_store.specs.Limits.{limit_units}
use Rattle.js_store.specs.declared.limit.Limit.{Limit}
use Rattle.eval_tree.specs.Tree.{Tree}
use Rattle.eval_scopes.specs.Seen.{bounds_of}
use Rattle.heap_rule.specs.declared.size.HeapSize.{HeapSize}
use Rattle.run_program.specs.declared.ran.Setup.{Setup}
use Rattle.run_program.specs.Ran.{IsRan, state_kept}
use Rattle.run_program.specs.Stages.{IsRunOver}
use Rattle.run_here.specs.declared.here.Here.{Here}
use Rattle.run_here.specs.Left.{LeavesMeant, script_by}

-- one agent on a heap of these sizes; interned strings aren't counted
abbrev pub one_agent : HeapSize → Limit → Setup
one_agent size limit = record { jobs = 1; size = size; limit = limit; count = false }

-- The files were run as any program runs them, in one group, and the bindings are those that are left. Each
-- report of a full heap is true of the heap that is kept.
pub record IsHere (size : HeapSize) (limit : Limit) (prelude : Option Tree) (script : Tree)
    (here : Here) : Type 0 where
  pub ran : IsRan (one_agent size limit) prelude (script ∷ []) here.ran
  pub told : IsRunOver (one_agent size limit) (state_kept (one_agent size limit) here.ran.kept) prelude
      (script ∷ []) here.ran.prelude here.ran.scripts.items here.ran.interned
  pub left : LeavesMeant (state_kept (one_agent size limit) here.ran.kept)
      (script_by (limit_units limit) prelude script) (bounds_of here.env) here.ran.scripts.items
