use Rattle.heap_table.specs.Agents.{Belongs}
use Rattle.bench_heap.proofs.flat.make_strings.Given as goal

abbrev pub invariant-loop-i : goal.invariant-loop-i
invariant-loop-i l = Belongs l.text.reader.agent l.text.reader.heap.now
