use Rattle.std.proofs.Common.{◌≡◌, ◌-◌, ◌≤◌, length, drop}
use Rattle.js_units.specs.Lanes.{is_wide}
use Rattle.heap_read.proofs.packing.has_wide.Given as goal

abbrev pub invariant-loop-done : goal.invariant-loop-done
invariant-loop-done l = record {
  most : l.done ≤ length l.units;
  rest : is_wide (drop l.done l.units) ≡ is_wide l.units;
}

abbrev pub decreases-loop-done : goal.decreases-loop-done
decreases-loop-done l = length l.units - l.done
