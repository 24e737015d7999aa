use Rattle.std.proofs.Common.{◌≡◌, ◌+◌, ◌-◌, ◌≤◌, ◌<◌, ◌^◌, ℕ, get_or}
use Rattle.js_units.specs.Lanes.{lane_base, lane_of}
use Rattle.heap_read.proofs.packing.some_lanes.Given as goal

abbrev pub invariant-loop-i : goal.invariant-loop-i
invariant-loop-i l = record {
  above : l.from ≤ l.i;
  below : l.i ≤ l.to;
  small : l.word < lane_base l.wide ^ (l.to - l.i);
  lanes : (q : ℕ) → q < l.to - l.i → lane_of l.wide l.word q ≡ get_or l.units (l.i + q) 0;
}
