use Rattle.std.proofs.Common.{◌≡◌, ℕ, List}
use Rattle.heap_rule.specs.Maps.{Has}
use Rattle.heap_table.specs.Agents.{Belongs, view_of}
use Rattle.heap_read.specs.Windows.{IsWindow}
use Rattle.bench_heap.proofs.readers.sum_of_units.Given as goal

abbrev pub invariant-loop-i : goal.invariant-loop-i
invariant-loop-i l = record {
  text : Belongs l.text.reader.agent l.text.reader.heap.now;
  shows : (us : List ℕ) → Has (view_of l.fn.text.reader.agent).units l.fn.s.id us → IsWindow (view_of l.text.reader.agent) l.window us;
}
