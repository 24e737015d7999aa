use Rattle.std.proofs.Common.{◌≡◌, take}
use Rattle.std.specs.Prelude.{map}
use Rattle.js_number.specs.Arith.{modulo}
use Rattle.js_methods.proofs.building.units_of_codes.Given as goal

abbrev pub invariant-loop-code : goal.invariant-loop-code
invariant-loop-code l = l.units ≡ map (modulo 65536) (take l.code-index l.codes)
