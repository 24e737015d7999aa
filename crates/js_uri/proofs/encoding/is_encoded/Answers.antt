use Rattle.std.proofs.Common.{◌≡◌, true, arith, length, ◌≤◌, ap, sym, ◌∙◌}
use Rattle.std.specs.List.{list_all}
use Rattle.std.proofs.lemmas.List.{take_all}
use Rattle.js_uri.specs.Calls.{keep_of}
use Rattle.js_uri.proofs.Unchanged.{is_kept, encoded_same}
use Rattle.js_uri.proofs.encoding.is_encoded.Goals as goal

pub returns : goal.returns
returns c =
    let kept = is_kept (keep_of c.args.part) in
    let over : length c.args.units.now ≤ c.loop-unit.unit-index = omega arith in
    let all : list_all kept c.args.units.now ≡ true = ap (list_all kept) (sym (take_all c.loop-unit.unit-index c.args.units.now over)) ∙ c.loop-unit.invariant in
    λ h. encoded_same (keep_of c.args.part) c.args.units.now all
