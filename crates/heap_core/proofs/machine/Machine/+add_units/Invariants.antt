use Rattle.heap_core.proofs.machine.Machine.+add_units.Given as goal

abbrev pub decreases-add_units : goal.decreases-add_units
decreases-add_units l = l.id
