use Rattle.std.proofs.Common.{◌≡◌, take}
use Rattle.std.specs.Prelude.{true}
use Rattle.std.specs.List.{list_all}
use Rattle.js_uri.proofs.Unchanged.{is_plain}
use Rattle.js_uri.proofs.decoding.has_no_percent.Given as goal

abbrev pub invariant-loop-unit : goal.invariant-loop-unit
invariant-loop-unit l = list_all is_plain (take l.unit-index l.units) ≡ true
