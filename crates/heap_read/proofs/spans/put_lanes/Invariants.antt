use Rattle.std.proofs.Common.{◌≡◌, ℕ, ◌+◌, ◌-◌, ◌<◌, ◌≤◌, get_or}
use Rattle.js_units.specs.Lanes.{lane_of}
use Rattle.heap_read.proofs.spans.put_lanes.Given as goal

abbrev pub invariant-loop-k : goal.invariant-loop-k
invariant-loop-k l = record {
  most : l.k ≤ l.count;
  before : (j : ℕ) → j < l.at → get_or l.into j 0 ≡ get_or l.fn.into j 0;
  inside : (j : ℕ) → j < l.k → get_or l.into (l.at + j) 0 ≡ lane_of l.wide l.word (l.low + j);
}

abbrev pub decreases-loop-k : goal.decreases-loop-k
decreases-loop-k l = l.count - l.k
