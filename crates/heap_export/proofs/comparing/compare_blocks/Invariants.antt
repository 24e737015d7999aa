use Rattle.std.proofs.Common.{◌≡◌, ◌-◌, ◌≤◌, ℕ, List, drop}
use Rattle.js_search.specs.Order.{units_cmp}
use Rattle.heap_rule.specs.Maps.{Has}
use Rattle.heap_table.specs.Agents.{view_of}
use Rattle.heap_read.specs.Reads.{OnlyLoads}
use Rattle.heap_text.specs.Keeping.{KeepsText}
use Rattle.heap_export.proofs.comparing.compare_blocks.Given as goal

abbrev pub invariant-loop-done : goal.invariant-loop-done
invariant-loop-done g l = record {
  most : l.done ≤ l.size;
  kept : KeepsText l.fn.text l.text;
  reads : OnlyLoads (view_of l.fn.text.reader.agent) (view_of l.text.reader.agent);
  rest : (us vs : List ℕ) → Has (view_of l.fn.text.reader.agent).units l.a.id us → Has (view_of l.fn.text.reader.agent).units l.b.id vs → units_cmp (drop l.done us) (drop l.done vs) ≡ units_cmp us vs;
}

abbrev pub decreases-loop-done : goal.decreases-loop-done
decreases-loop-done g l = l.size - l.done
