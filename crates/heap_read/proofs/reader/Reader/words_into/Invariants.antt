use Rattle.std.proofs.Common.{◌≡◌, ℕ, ◌%◌, ◌≤◌, List, get_or}
use Rattle.js_units.specs.Lanes.{lane_count}
use Rattle.heap_read.specs.Readers.{view_in}
use Rattle.heap_read.specs.Reads.{KeepsForms, OnlyLoads}
use Rattle.heap_read.specs.Windows.{IsWindow}
use Rattle.heap_read.specs.Written.{ShowsFrom}
use Rattle.heap_read.proofs.reader.Reader.words_into.Given as goal

abbrev pub invariant-loop-k : goal.invariant-loop-k
invariant-loop-k g l = record {
  same : (us : List ℕ) → IsWindow (view_in l.fn.self) l.w us → ShowsFrom l.w.wide (l.w.offset % lane_count l.w.wide) us l.at l.k l.into;
  rest : (k : ℕ) → l.k ≤ k → get_or l.into k 0 ≡ get_or l.fn.into k 0;
  heap : l.self.heap ≡ l.fn.self.heap;
  reads : OnlyLoads (view_in l.fn.self) (view_in l.self);
  forms : KeepsForms (view_in l.fn.self) (view_in l.self);
}
