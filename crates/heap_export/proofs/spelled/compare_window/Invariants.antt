use Rattle.std.proofs.Common.{◌≡◌, ◌≤◌, ℕ, List, drop, length}
use Rattle.js_search.specs.Order.{units_cmp}
use Rattle.heap_table.specs.Agents.{view_of}
use Rattle.heap_read.specs.Windows.{IsWindow}
use Rattle.heap_bytes.specs.Spellings.{IsReadable, spelling_units}
use Rattle.heap_text.specs.Keeping.{KeepsText}
use Rattle.heap_export.specs.Points.{LoadsWords}
use Rattle.heap_export.proofs.spelled.compare_window.Given as goal

abbrev pub invariant-loop-count : goal.invariant-loop-count
invariant-loop-count g l = record {
  long : length l.room ≡ 65;
  kept : KeepsText l.fn.text l.text;
  loads : LoadsWords (view_of l.fn.text.reader.agent) (view_of l.text.reader.agent);
  read : IsReadable l.rest;
  within : l.done ≤ l.w.len;
  left : (us : List ℕ) → IsWindow (view_of l.fn.text.reader.agent) l.w us → units_cmp (drop l.done us) (spelling_units l.rest) ≡ units_cmp us (spelling_units l.source);
}

abbrev pub decreases-loop-count : goal.decreases-loop-count
decreases-loop-count g l = length (spelling_units l.rest)
