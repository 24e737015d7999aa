use Rattle.std.proofs.Common.{◌≡◌, length, sym, ◌∙◌, arith}
use Rattle.std.proofs.lemmas.List.{same_lists, get_or_default}
use Rattle.std.proofs.lemmas.Slice.Eq.{bytes_eq-Decides}
use Rattle.js_store.specs.State.{text}
use Rattle.js_item.proofs.keyed.is_key.Goals as goal

pub returns-clause-value : goal.returns-clause-value
returns-clause-value g c =
    let t = text (g.S.Strings.state c.args.store.now) (g.S.Strings.number c.args.key) in
    let u = c.args.units.now in
    let sizes : length t ≡ length u = omega (arith, c.if-len-units.false, c.len-len.ensures.value) in
    let same : t ≡ u = same_lists t u sizes (λ k d h. get_or_default t k d 0 h ∙ c.loop-i.invariant.same k
    (omega (arith, h, c.loop-i-test.false, c.len-len.ensures.value)) ∙ sym (get_or_default u k d 0 (omega (arith, h, sizes)))) in
    sym ((bytes_eq-Decides t u).1 same)
