use Rattle.std.proofs.Common.{◌≡◌, ◌≤◌, length, take}
use Rattle.js_methods.specs.Building.{filling}
use Rattle.js_methods.proofs.building.repeat_front.Given as goal

abbrev pub invariant-loop-i : goal.invariant-loop-i
invariant-loop-i l = record {
  past : l.size ≤ l.i;
  same : length l.units ≡ length l.fn.units;
  done : take l.i l.units ≡ filling (take l.size l.fn.units) l.i;
}
