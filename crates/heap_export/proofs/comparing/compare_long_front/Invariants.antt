use Rattle.std.proofs.Common.{◌≡◌, ◌-◌, ◌≤◌, ℕ, List, drop}
use Rattle.js_search.specs.Order.{units_cmp}
use Rattle.heap_table.specs.Agents.{view_of}
use Rattle.heap_read.specs.Windows.{IsWindow}
use Rattle.heap_text.specs.Keeping.{KeepsText}
use Rattle.heap_export.specs.Points.{LoadsWords}
use Rattle.heap_export.proofs.comparing.compare_long_front.Given as goal

abbrev pub invariant-loop-at : goal.invariant-loop-at
invariant-loop-at g l = record {
  most : l.at ≤ l.size;
  kept : KeepsText l.fn.text l.text;
  loads : LoadsWords (view_of l.fn.text.reader.agent) (view_of l.text.reader.agent);
  rest : (us : List ℕ) → IsWindow (view_of l.fn.text.reader.agent) l.w us → units_cmp (drop l.at us) (drop l.at l.units) ≡ units_cmp us l.units;
}

abbrev pub decreases-loop-at : goal.decreases-loop-at
decreases-loop-at g l = l.size - l.at
