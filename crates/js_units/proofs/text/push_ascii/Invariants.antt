use Rattle.std.proofs.Common.{◌≡◌, ◌++◌, ◌+◌, ◌≤◌, take}
use Rattle.js_units.proofs.text.push_ascii.Given as goal

abbrev pub invariant-loop-unit : goal.invariant-loop-unit
invariant-loop-unit l = record {
  added : l.out.items ≡ l.fn.out.items ++ take l.unit-index l.units;
  room : l.out.len + l.unit-index-end ≤ l.out.cap + l.unit-index;
}
