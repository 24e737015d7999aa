use Rattle.std.proofs.Common.{◌≡◌, ◌+◌}
use Rattle.heap_rule.specs.Maps.{without_run}
use Rattle.heap_rule.proofs.runs.IdMap+u64.remove_run.Given as goal

abbrev pub invariant-keys : goal.invariant-keys
invariant-keys l = (without_run l.self l.at l.left ≡ without_run l.fn.self l.from l.n) × (l.at + l.left ≡ l.from + l.n)

abbrev pub decreases-keys : goal.decreases-keys
decreases-keys l = l.left
