use Rattle.std.proofs.Common.{◌≡◌, ℕ, ◌+◌, ◌<◌}
use Rattle.heap_read.specs.Written.{held_unit}
use Rattle.heap_read.proofs.comparing.has_same_units.Given as goal

abbrev pub invariant-loop-k : goal.invariant-loop-k
invariant-loop-k l = (k : ℕ) → k < l.k → held_unit l.left (l.i + k) ≡ held_unit l.right (l.i + k)
