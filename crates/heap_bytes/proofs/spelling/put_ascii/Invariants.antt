use Rattle.std.proofs.Common.{◌≡◌, ◌+◌, ◌<◌, ◌≤◌, ◌-◌, ◌++◌, ℕ, get_or, length, take}
use Rattle.heap_bytes.proofs.spelling.put_ascii.Given as goal

abbrev pub invariant-loop-run : goal.invariant-loop-run
invariant-loop-run l = record {
  long : length l.room ≡ length l.fn.room;
  within : l.run ≤ l.most;
  ascii : (k : ℕ) → k < l.run → get_or l.bytes k 0 < 128;
  units : take (l.at + l.run) l.room ≡ take l.at l.fn.room ++ take l.run l.bytes;
}

abbrev pub decreases-loop-run : goal.decreases-loop-run
decreases-loop-run l = l.most - l.run
