use Rattle.std.proofs.Common.{◌+◌, ◌-◌, ◌*◌}
use Rattle.bench_heap.proofs.readers.+readers.Given as goal

abbrev pub decreases-read_by : goal.decreases-read_by
decreases-read_by g l = 4 * l.agents

abbrev pub decreases-both_halves : goal.decreases-both_halves
decreases-both_halves g l = 4 * (l.on_left + l.on_right) - 1

abbrev pub decreases-both_halves-first : goal.decreases-both_halves-first
decreases-both_halves-first g l = 4 * l.on_left + 1

abbrev pub decreases-both_halves-second : goal.decreases-both_halves-second
decreases-both_halves-second g l = 4 * l.on_right + 1
