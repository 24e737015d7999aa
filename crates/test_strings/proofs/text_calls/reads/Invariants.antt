use Rattle.std.proofs.Common.{◌≡◌, ℕ, List, length}
use Rattle.heap_rule.specs.Maps.{Has}
use Rattle.heap_rule.specs.Views.{IsSeenSettled}
use Rattle.heap_table.specs.Agents.{view_of}
use Rattle.heap_read.specs.Reads.{Continues}
use Rattle.heap_read.specs.Windows.{IsWindow}
use Rattle.test_strings.proofs.text_calls.reads.Given as goal

abbrev pub invariant-loop-i : goal.invariant-loop-i
invariant-loop-i l = record {
  heap : l.text.reader.heap ≡ l.fn.text.reader.heap;
  continues : Continues (view_of l.fn.text.reader.agent) (view_of l.text.reader.agent);
  settled : IsSeenSettled (view_of l.text.reader.agent) l.s.id;
  shows : (us : List ℕ) → Has (view_of l.fn.text.reader.agent).units l.s.id us → IsWindow (view_of l.text.reader.agent) l.window us;
  count : l.window.len ≡ length l.want;
}

abbrev pub invariant-loop-k : goal.invariant-loop-k
invariant-loop-k l = record {
  heap : l.text.reader.heap ≡ l.fn.text.reader.heap;
  continues : Continues (view_of l.fn.text.reader.agent) (view_of l.text.reader.agent);
  settled : IsSeenSettled (view_of l.text.reader.agent) l.s.id;
  long : (us : List ℕ) → Has (view_of l.fn.text.reader.agent).units l.s.id us → l.k-end ≡ length us;
  count : l.k-end ≡ length l.want;
}
