use Rattle.std.proofs.Common.{◌≡◌, ℕ, ◌+◌, ap, arith, ◌∙◌}
use Rattle.std.specs.Prelude.{slice_index}
use Rattle.js_search.proofs.Marks.{some_marked}
use Rattle.js_search.proofs.pairs.has_some.Goals as goal

pub returns : goal.returns
returns c k l h =
    let e : c.args.at + c.args.pair.apart + k ≡ c.args.at + k + c.args.pair.apart = omega arith in
    some_marked c.marks-first.result c.marks-other.result k ((c.marks-first.ensures k).1 (l, h.first))
    ((c.marks-other.ensures k).1 (l, ap (λ (j : ℕ). slice_index c.args.units.now j) e ∙ h.other))
