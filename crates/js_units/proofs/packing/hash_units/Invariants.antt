use Rattle.std.proofs.Common.{◌≡◌, drop}
use Rattle.js_units.specs.Lanes.{hash_from}
use Rattle.js_units.proofs.packing.hash_units.Given as goal

abbrev pub invariant-loop-unit : goal.invariant-loop-unit
invariant-loop-unit l = hash_from l.hash (drop l.unit-index l.units) ≡ hash_from l.h l.units
