use Rattle.std.proofs.Common.{◌≡◌, true, arith, length, ◌≤◌, ap, sym, ◌∙◌}
use Rattle.std.specs.List.{list_all}
use Rattle.std.proofs.lemmas.List.{take_all}
use Rattle.js_uri.proofs.Unchanged.{is_plain, decoded_same}
use Rattle.js_uri.proofs.decoding.has_no_percent.Goals as goal

pub returns : goal.returns
returns c =
    let over : length c.args.units.now ≤ c.loop-unit.unit-index = omega arith in
    let all : list_all is_plain c.args.units.now ≡ true = ap (list_all is_plain) (sym (take_all c.loop-unit.unit-index c.args.units.now over)) ∙ c.loop-unit.invariant in
    λ h hold. decoded_same hold c.args.units.now all
