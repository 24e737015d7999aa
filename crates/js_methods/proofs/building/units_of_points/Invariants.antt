use Rattle.std.proofs.Common.{◌≡◌, take}
use Rattle.std.specs.Prelude.{true}
use Rattle.std.specs.List.{list_all}
use Rattle.js_methods.specs.Building.{is_code_point, code_units_of}
use Rattle.js_methods.proofs.building.units_of_points.Given as goal

abbrev pub invariant-loop-point : goal.invariant-loop-point
invariant-loop-point l = record {
  passed : list_all is_code_point (take l.point-index l.points) ≡ true;
  made : l.units ≡ code_units_of (take l.point-index l.points);
}
