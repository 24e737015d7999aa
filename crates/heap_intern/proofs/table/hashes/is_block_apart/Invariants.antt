use Rattle.std.proofs.Common.{ℕ, ◌+◌, ◌<◌}
use Rattle.std.specs.Prelude.{IsTrue}
use Rattle.heap_intern.specs.Hashes.{IsNotedApart}
use Rattle.heap_intern.proofs.table.hashes.is_block_apart.Given as goal

abbrev pub invariant-loop-i : goal.invariant-loop-i
invariant-loop-i l = IsTrue l.apart → (k : ℕ) → k < l.i → IsNotedApart l.hashes (l.at + k) l.mark
