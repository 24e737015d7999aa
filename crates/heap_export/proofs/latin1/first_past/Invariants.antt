use Rattle.std.proofs.Common.{◌≡◌, ◌-◌, ◌≤◌, ℕ, List, drop}
use Rattle.heap_table.specs.Agents.{view_of}
use Rattle.heap_read.specs.Windows.{IsWindow}
use Rattle.heap_text.specs.Keeping.{KeepsText}
use Rattle.heap_export.specs.Encoded.{past_latin1}
use Rattle.heap_export.specs.Points.{LoadsWords}
use Rattle.heap_export.proofs.latin1.first_past.Given as goal

abbrev pub invariant-loop-i : goal.invariant-loop-i
invariant-loop-i g l = record {
  kept : KeepsText l.fn.text l.text;
  loads : LoadsWords (view_of l.fn.text.reader.agent) (view_of l.text.reader.agent);
  within : l.i ≤ l.w.len;
  narrow : (us : List ℕ) → IsWindow (view_of l.fn.text.reader.agent) l.w us → past_latin1 0 us ≡ past_latin1 l.i (drop l.i us);
}

abbrev pub decreases-loop-i : goal.decreases-loop-i
decreases-loop-i g l = l.w.len - l.i
