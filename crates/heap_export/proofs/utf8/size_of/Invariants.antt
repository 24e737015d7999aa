use Rattle.std.proofs.Common.{◌≡◌, ◌+◌, ◌-◌, ◌*◌, ◌≤◌, ℕ, List, length, drop}
use Rattle.heap_table.specs.Agents.{view_of}
use Rattle.heap_read.specs.Windows.{IsWindow}
use Rattle.heap_text.specs.Keeping.{KeepsText}
use Rattle.heap_export.specs.declared.faults.Unpaired.TheVariants.{Refuse}
use Rattle.heap_export.specs.Encoded.{unpaired}
use Rattle.heap_export.specs.Points.{LoadsWords}
use Rattle.heap_export.proofs.Spelling.{spelled}
use Rattle.heap_export.proofs.utf8.size_of.Given as goal

abbrev pub invariant-loop-i : goal.invariant-loop-i
invariant-loop-i g l = record {
  kept : KeepsText l.fn.text l.text;
  loads : LoadsWords (view_of l.fn.text.reader.agent) (view_of l.text.reader.agent);
  within : l.i ≤ l.w.len;
  few : l.size ≤ 3 * l.i;
  size : (us : List ℕ) → IsWindow (view_of l.fn.text.reader.agent) l.w us → l.size + length (spelled l.unpaired (drop l.i us)) ≡ length (spelled l.unpaired us);
  whole : (us : List ℕ) → IsWindow (view_of l.fn.text.reader.agent) l.w us → l.unpaired ≡ Refuse → unpaired 0 us ≡ unpaired l.i (drop l.i us);
}

abbrev pub decreases-loop-i : goal.decreases-loop-i
decreases-loop-i g l = l.w.len - l.i
