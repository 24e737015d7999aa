use Rattle.std.proofs.Common.{◌≡◌, ◌+◌}
use Rattle.heap_rule.specs.Maps.{with_run}
use Rattle.heap_rule.proofs.runs.IdMap+u64.insert_run.Given as goal

abbrev pub invariant-keys : goal.invariant-keys
invariant-keys l = (with_run l.self l.at l.left l.value ≡ with_run l.fn.self l.from l.n l.value) × (l.at + l.left ≡ l.from + l.n)

abbrev pub decreases-keys : goal.decreases-keys
decreases-keys l = l.left
