use Rattle.std.proofs.Common.{◌+◌, ◌-◌, ◌*◌}
use Rattle.run_program.proofs.halves.+halves.Given as goal

abbrev pub decreases-run_groups : goal.decreases-run_groups
decreases-run_groups g l = 4 * l.groups

abbrev pub decreases-both_halves : goal.decreases-both_halves
decreases-both_halves g l = 4 * (l.left + l.right) - 1

abbrev pub decreases-both_halves-first : goal.decreases-both_halves-first
decreases-both_halves-first g l = 4 * l.left + 1

abbrev pub decreases-both_halves-second : goal.decreases-both_halves-second
decreases-both_halves-second g l = 4 * l.right + 1
