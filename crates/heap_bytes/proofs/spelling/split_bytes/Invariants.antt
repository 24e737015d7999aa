use Rattle.std.proofs.Common.{◌≡◌, ◌<◌, ℕ, get_or, length}
use Rattle.heap_bytes.proofs.spelling.split_bytes.Given as goal

abbrev pub invariant-loop-i : goal.invariant-loop-i
invariant-loop-i l = (length l.room ≡ length l.fn.room) × ((k : ℕ) → k < l.i → get_or l.room k 0 ≡ get_or l.bytes k 0)
