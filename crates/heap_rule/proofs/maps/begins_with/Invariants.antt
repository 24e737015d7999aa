use Rattle.std.proofs.Common.{◌-◌, length, drop}
use Rattle.heap_rule.specs.Paths.{StartsWith}
use Rattle.heap_rule.proofs.maps.begins_with.Given as goal

abbrev pub invariant-calls : goal.invariant-calls
invariant-calls l = (StartsWith (drop l.i l.calls) (drop l.i l.front) → StartsWith l.calls l.front) × (StartsWith l.calls l.front → StartsWith (drop l.i l.calls) (drop l.i l.front))

abbrev pub decreases-calls : goal.decreases-calls
decreases-calls l = length l.front - l.i
