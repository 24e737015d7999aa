use Rattle.std.proofs.Common.{◌≡◌, ℕ, ◌-◌, ◌<◌, ◌≤◌, List, get_or}
use Rattle.heap_read.specs.Readers.{view_in}
use Rattle.heap_read.specs.Reads.{KeepsForms, OnlyLoads}
use Rattle.heap_read.specs.Shifted.{BeginsWord}
use Rattle.heap_read.specs.Windows.{IsWindow}
use Rattle.heap_read.proofs.reader.Reader.pass_fours.Given as goal

abbrev pub invariant-loop-i : goal.invariant-loop-i
invariant-loop-i g l = record {
  low : l.from ≤ l.i;
  most : l.i ≤ l.w.len;
  place : BeginsWord l.w l.i l.at;
  none : (us : List ℕ) → IsWindow (view_in l.fn.self) l.w us → (k : ℕ) → l.from ≤ k → k < l.i → get_or us k 0 ≡ l.unit → ⊥;
  heap : l.self.heap ≡ l.fn.self.heap;
  reads : OnlyLoads (view_in l.fn.self) (view_in l.self);
  forms : KeepsForms (view_in l.fn.self) (view_in l.self);
}

abbrev pub decreases-loop-i : goal.decreases-loop-i
decreases-loop-i g l = l.w.len - l.i
