use Rattle.std.proofs.Common.{ℕ, ◌<◌, get_or}
use Rattle.plain_store.proofs.read_each.Given as goal

abbrev pub invariant-loop-i : goal.invariant-loop-i
invariant-loop-i l = (k : ℕ) → k < l.i → get_or l.units k 0 < 65536
