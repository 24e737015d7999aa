use Rattle.std.proofs.Common.{◌≡◌, ℕ, ◌+◌, ◌-◌, ◌<◌, ◌≤◌, List, get_or}
use Rattle.heap_read.specs.Frozen.{HasLane, IsLearned}
use Rattle.heap_read.specs.Readers.{view_in}
use Rattle.heap_read.specs.Reads.{KeepsForms, OnlyLoads}
use Rattle.heap_read.specs.Windows.{IsWindow}
use Rattle.heap_read.proofs.reader.Reader.same_units.Given as goal

abbrev pub invariant-loop-i : goal.invariant-loop-i
invariant-loop-i g l = record {
  most : l.i ≤ l.a.len;
  heap : l.self.heap ≡ l.fn.self.heap;
  reads : OnlyLoads (view_in l.fn.self) (view_in l.self);
  forms : KeepsForms (view_in l.fn.self) (view_in l.self);
  learned : IsLearned (view_in l.self);
  same : (us : List ℕ) → IsWindow (view_in l.fn.self) l.a us → (k : ℕ) → k < l.i → HasLane (view_in l.self) l.b.wide l.b.start (l.b.offset + k) (get_or us k 0);
}

abbrev pub decreases-loop-i : goal.decreases-loop-i
decreases-loop-i g l = l.a.len - l.i
