use Rattle.std.proofs.Common.{◌≡◌, ℕ, ◌+◌, ◌-◌, ◌<◌, ◌≤◌, List, length, get_or}
use Rattle.heap_read.specs.Readers.{view_in}
use Rattle.heap_read.specs.Reads.{KeepsForms, OnlyLoads}
use Rattle.heap_read.specs.Shifted.{BeginsWord}
use Rattle.heap_read.specs.Windows.{IsWindow}
use Rattle.heap_read.proofs.reader.Reader.lanes_into.Given as goal

abbrev pub invariant-loop-into : goal.invariant-loop-into
invariant-loop-into g l = record {
  low : l.done ≤ l.next;
  most : l.next ≤ length l.into;
  place : BeginsWord l.w (l.from + l.next) l.at;
  before : (k : ℕ) → k < l.done → get_or l.into k 0 ≡ get_or l.fn.into k 0;
  same : (us : List ℕ) → IsWindow (view_in l.fn.self) l.w us → (k : ℕ) → l.done ≤ k → k < l.next → get_or l.into k 0 ≡ get_or us (l.from + k) 0;
  heap : l.self.heap ≡ l.fn.self.heap;
  reads : OnlyLoads (view_in l.fn.self) (view_in l.self);
  forms : KeepsForms (view_in l.fn.self) (view_in l.self);
}

abbrev pub decreases-loop-into : goal.decreases-loop-into
decreases-loop-into g l = length l.into - l.next
