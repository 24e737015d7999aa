use Rattle.std.proofs.Common.{◌<◌, ◌≤◌, ◌-◌, ℕ, get_or, length}
use Rattle.heap_bytes.proofs.decoding.ascii_run.Given as goal

abbrev pub invariant-loop-run : goal.invariant-loop-run
invariant-loop-run l = record {
  within : l.run ≤ length l.bytes;
  ascii : (k : ℕ) → k < l.run → get_or l.bytes k 0 < 128;
}

abbrev pub decreases-loop-run : goal.decreases-loop-run
decreases-loop-run l = length l.bytes - l.run
