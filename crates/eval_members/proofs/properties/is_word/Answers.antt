use Rattle.std.proofs.Common.{◌≡◌, length, sym, ◌∙◌, arith}
use Rattle.std.proofs.lemmas.List.{same_lists, get_or_default}
use Rattle.std.proofs.lemmas.Slice.Eq.{bytes_eq-Decides}
use Rattle.eval_members.proofs.properties.is_word.Goals as goal

pub returns : goal.returns
returns c =
    let t = c.args.units.now in
    let u = c.args.word.now in
    let sizes : length t ≡ length u = omega (arith, c.if-units-word.false) in
    let same : t ≡ u = same_lists t u sizes (λ k d h. get_or_default t k d 0 h ∙ c.loop-i.invariant.same k
    (omega (arith, h, c.loop-i-test.false)) ∙ sym (get_or_default u k d 0 (omega (arith, h, sizes)))) in
    sym ((bytes_eq-Decides t u).1 same)
