use Rattle.std.proofs.Common.{ℕ, ◌+◌, ◌-◌, ◌<◌, ◌≤◌}
use Rattle.heap_intern.specs.Hashes.{IsNotedApart}
use Rattle.heap_intern.proofs.table.hashes.count_blocks.Given as goal

abbrev pub invariant-loop-at : goal.invariant-loop-at
invariant-loop-at l = (l.from ≤ l.at) × (l.at ≤ l.to) × ((i : ℕ) → l.from + i < l.at → IsNotedApart l.hashes (l.from + i) l.mark)

abbrev pub decreases-loop-at : goal.decreases-loop-at
decreases-loop-at l = l.to - l.at
