use Rattle.std.proofs.Common.{◌≡◌, ◌++◌, drop}
use Rattle.heap_schedule.specs.Shown.{unit_texts}
use Rattle.heap_schedule.proofs.show.add_units.Given as goal

abbrev pub invariant-loop-unit : goal.invariant-loop-unit
invariant-loop-unit l = l.out.items ++ unit_texts (drop l.unit-index l.units) ≡ l.fn.out.items ++ unit_texts l.units
