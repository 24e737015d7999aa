use Rattle.std.proofs.Common.{◌≡◌, ℕ, List, length}
use Rattle.heap_rule.specs.Maps.{Has}
use Rattle.heap_rule.specs.Views.{IsSeenSettled}
use Rattle.heap_table.specs.Agents.{Belongs, view_of}
use Rattle.bench_heap.proofs.ropes.cut_often.Given as goal

abbrev pub invariant-loop-i : goal.invariant-loop-i
invariant-loop-i l = record {
  text : Belongs l.text.reader.agent l.text.reader.heap.now;
  settled : IsSeenSettled (view_of l.text.reader.agent) l.s.id;
  known : (us : List ℕ) × Has (view_of l.text.reader.agent).units l.s.id us × (length us ≡ 1000001);
}
