use Rattle.std.proofs.Common.{◌-◌, ◌≡◌, ℕ, ◌+◌, ◌/◌, ◌<◌, ◌≤◌}
use Rattle.js_units.specs.Lanes.{lane_count}
use Rattle.heap_rule.specs.Maps.{HasKey}
use Rattle.heap_read.specs.Frozen.{IsLearned}
use Rattle.heap_read.specs.Readers.{view_in}
use Rattle.heap_read.specs.Reads.{KeepsForms, OnlyLoads}
use Rattle.heap_intern.proofs.table.adopting.read_words.Given as goal

abbrev pub invariant-loop-i : goal.invariant-loop-i
invariant-loop-i g l = record {
  most : l.i ≤ l.w.len;
  heap : l.reader.heap ≡ l.fn.reader.heap;
  reads : OnlyLoads (view_in l.fn.reader) (view_in l.reader);
  forms : KeepsForms (view_in l.fn.reader) (view_in l.reader);
  learned : IsLearned (view_in l.reader);
  frozen : (k : ℕ) → k < l.i → HasKey (view_in l.reader).frozen (l.w.start + (l.w.offset + k) / lane_count l.w.wide);
}

abbrev pub decreases-loop-i : goal.decreases-loop-i
decreases-loop-i g l = l.w.len - l.i
