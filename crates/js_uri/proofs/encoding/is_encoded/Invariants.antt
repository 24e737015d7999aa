use Rattle.std.proofs.Common.{◌≡◌, take}
use Rattle.std.specs.Prelude.{true}
use Rattle.std.specs.List.{list_all}
use Rattle.js_uri.specs.Calls.{keep_of}
use Rattle.js_uri.proofs.Unchanged.{is_kept}
use Rattle.js_uri.proofs.encoding.is_encoded.Given as goal

abbrev pub invariant-loop-unit : goal.invariant-loop-unit
invariant-loop-unit l = list_all (is_kept (keep_of l.part)) (take l.unit-index l.units) ≡ true
