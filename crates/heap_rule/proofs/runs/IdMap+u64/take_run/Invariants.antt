use Rattle.std.proofs.Common.{◌≡◌, ◌+◌}
use Rattle.heap_rule.specs.Maps.{with_run_of}
use Rattle.heap_rule.proofs.runs.IdMap+u64.take_run.Given as goal

abbrev pub invariant-keys : goal.invariant-keys
invariant-keys l = (with_run_of l.other l.self l.at l.left ≡ with_run_of l.other l.fn.self l.from l.n) × (l.at + l.left ≡ l.from + l.n)

abbrev pub decreases-keys : goal.decreases-keys
decreases-keys l = l.left
