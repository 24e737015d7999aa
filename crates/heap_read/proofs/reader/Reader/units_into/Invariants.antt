use Rattle.std.proofs.Common.{◌≡◌, ℕ, ◌+◌, ◌-◌, ◌<◌, ◌≤◌, List, length, get_or}
use Rattle.heap_read.specs.Readers.{view_in}
use Rattle.heap_read.specs.Reads.{KeepsForms, OnlyLoads}
use Rattle.heap_read.specs.Windows.{IsWindow}
use Rattle.heap_read.proofs.reader.Reader.units_into.Given as goal

abbrev pub invariant-loop-done : goal.invariant-loop-done
invariant-loop-done g l = record {
  most : l.done ≤ length l.into;
  same : (us : List ℕ) → IsWindow (view_in l.fn.self) l.w us → (k : ℕ) → k < l.done → get_or l.into k 0 ≡ get_or us (l.from + k) 0;
  heap : l.self.heap ≡ l.fn.self.heap;
  reads : OnlyLoads (view_in l.fn.self) (view_in l.self);
  forms : KeepsForms (view_in l.fn.self) (view_in l.self);
}

abbrev pub decreases-loop-done : goal.decreases-loop-done
decreases-loop-done g l = length l.into - l.done
