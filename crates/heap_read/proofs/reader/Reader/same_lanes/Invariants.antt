use Rattle.std.proofs.Common.{◌≡◌, ℕ, ◌-◌, ◌<◌, List, get_or}
use Rattle.heap_read.specs.Readers.{view_in}
use Rattle.heap_read.specs.Reads.{KeepsForms, OnlyLoads}
use Rattle.heap_read.specs.Shifted.{BeginsWord}
use Rattle.heap_read.specs.Windows.{IsWindow}
use Rattle.heap_read.proofs.reader.Reader.same_lanes.Given as goal

abbrev pub invariant-loop-i : goal.invariant-loop-i
invariant-loop-i g l = record {
  left : BeginsWord l.a l.i l.left_at;
  right : BeginsWord l.b l.i l.right_at;
  same : (us vs : List ℕ) → IsWindow (view_in l.fn.self) l.a us → IsWindow (view_in l.fn.self) l.b vs
      → (k : ℕ) → k < l.i → k < l.most → get_or us k 0 ≡ get_or vs k 0;
  heap : l.self.heap ≡ l.fn.self.heap;
  reads : OnlyLoads (view_in l.fn.self) (view_in l.self);
  forms : KeepsForms (view_in l.fn.self) (view_in l.self);
}

abbrev pub decreases-loop-i : goal.decreases-loop-i
decreases-loop-i g l = l.most - l.i
