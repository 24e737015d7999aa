use Rattle.std.proofs.Common.{◌≡◌}
use Rattle.heap_rule.specs.Maps.{HasKey}
use Rattle.heap_table.specs.Agents.{Belongs, view_of}
use Rattle.bench_heap.proofs.ropes.join_often.Given as goal

abbrev pub invariant-loop-join : goal.invariant-loop-join
invariant-loop-join l = record {
  text : Belongs l.text.reader.agent l.text.reader.heap.now;
  heap : l.text.reader.heap ≡ l.fn.text.reader.heap;
  share : (view_of l.text.reader.agent).share ≡ (view_of l.fn.text.reader.agent).share;
  side : HasKey (view_of l.text.reader.agent).units l.side.id;
  known : HasKey (view_of l.text.reader.agent).units l.s.id;
}
