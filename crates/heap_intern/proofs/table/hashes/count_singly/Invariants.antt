use Rattle.std.proofs.Common.{ℕ, ◌+◌, ◌<◌}
use Rattle.heap_intern.specs.Hashes.{IsNotedApart}
use Rattle.heap_intern.proofs.table.hashes.count_singly.Given as goal

abbrev pub invariant-loop-slot : goal.invariant-loop-slot
invariant-loop-slot l = (i : ℕ) → l.from + i < l.slot → IsNotedApart l.hashes (l.from + i) l.mark
