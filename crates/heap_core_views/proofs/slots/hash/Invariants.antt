use Rattle.std.proofs.Common.{◌≡◌, drop}
use Rattle.js_units.specs.Lanes.{hash_from, hash_of}
use Rattle.heap_core_views.proofs.slots.hash.Given as goal

abbrev pub invariant-loop-unit : goal.invariant-loop-unit
invariant-loop-unit l = hash_from l.h (drop l.unit-index l.us) ≡ hash_of l.us
