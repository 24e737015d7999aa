use Rattle.std.proofs.Common.{◌≡◌, ℕ, List, take}
use Rattle.heap_rule.specs.Maps.{Has}
use Rattle.heap_table.specs.Agents.{view_of}
use Rattle.heap_table.specs.Known.{KeepsKnown}
use Rattle.heap_read.specs.Windows.{IsWindow}
use Rattle.heap_example.proofs.greeting.read.Given as goal

abbrev pub invariant-loop-i : goal.invariant-loop-i
invariant-loop-i l = record {
  heap : l.text.reader.heap ≡ l.fn.text.reader.heap;
  known : KeepsKnown (view_of l.fn.text.reader.agent) (view_of l.text.reader.agent);
  shows : (us : List ℕ) → Has (view_of l.fn.text.reader.agent).units l.fn.s.id us → IsWindow (view_of l.text.reader.agent) l.window us;
  copied : (us : List ℕ) → Has (view_of l.fn.text.reader.agent).units l.fn.s.id us → l.units.items ≡ take l.i us;
}
