use Rattle.std.proofs.Common.{length, ◌-◌}
use Rattle.heap_intern.proofs.table.keeping.mix_units.Given as goal

abbrev pub decreases-loop-i : goal.decreases-loop-i
decreases-loop-i l = length l.units - l.i
