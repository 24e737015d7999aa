use Rattle.std.proofs.Common.{◌≡◌, ℕ, ◌+◌, ◌-◌, ◌/◌, ◌^◌, ◌<◌, ◌≤◌, List, drop}
use Rattle.js_units.specs.Lanes.{hash_from, hash_of, lane_count}
use Rattle.heap_rule.specs.Maps.{HasKey}
use Rattle.heap_read.specs.Readers.{view_in}
use Rattle.heap_read.specs.Reads.{KeepsForms, OnlyLoads}
use Rattle.heap_read.specs.Windows.{IsWindow}
use Rattle.heap_read.proofs.reader.Reader.hash_in.Given as goal

abbrev pub invariant-loop-i : goal.invariant-loop-i
invariant-loop-i g l = record {
  most : l.i ≤ l.w.len;
  small : l.hash < 2 ^ 32;
  heap : l.self.heap ≡ l.fn.self.heap;
  reads : OnlyLoads (view_in l.fn.self) (view_in l.self);
  forms : KeepsForms (view_in l.fn.self) (view_in l.self);
  hashed : (us : List ℕ) → IsWindow (view_in l.fn.self) l.w us → hash_from l.hash (drop l.i us) ≡ hash_of us;
  frozen : (k : ℕ) → k < l.i → HasKey (view_in l.self).frozen (l.w.start + (l.w.offset + k) / lane_count l.w.wide);
}

abbrev pub decreases-loop-i : goal.decreases-loop-i
decreases-loop-i g l = l.w.len - l.i
