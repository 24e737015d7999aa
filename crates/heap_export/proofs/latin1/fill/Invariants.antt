use Rattle.std.proofs.Common.{◌≡◌, ◌-◌, ◌≤◌, ◌++◌, ℕ, List, take, drop}
use Rattle.heap_table.specs.Agents.{view_of}
use Rattle.heap_read.specs.Windows.{IsWindow}
use Rattle.heap_text.specs.Keeping.{KeepsText}
use Rattle.heap_export.specs.Points.{LoadsWords}
use Rattle.heap_export.proofs.latin1.fill.Given as goal

abbrev pub invariant-loop-i : goal.invariant-loop-i
invariant-loop-i g l = record {
  kept : KeepsText l.fn.text l.text;
  loads : LoadsWords (view_of l.fn.text.reader.agent) (view_of l.text.reader.agent);
  within : l.i ≤ l.w.len;
  bytes : (us : List ℕ) → IsWindow (view_of l.fn.text.reader.agent) l.w us → take l.i l.out ++ drop l.i us ≡ us;
}

abbrev pub decreases-loop-i : goal.decreases-loop-i
decreases-loop-i g l = l.w.len - l.i
