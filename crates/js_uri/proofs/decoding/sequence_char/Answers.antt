use Rattle.std.proofs.Common.{◌≡◌, arith, ap, sym, ◌∙◌}
use Rattle.js_uri.specs.Decoding.{escaped_bytes}
use Rattle.js_uri.specs.Steps.{utf8_point}
use Rattle.js_uri.proofs.decoding.sequence_char.Goals as goal

pub returns-in_default-clause-value : goal.returns-in_default-clause-value
returns-in_default-clause-value c =
    let four : c.args.n ≡ 4 = omega arith in
    c.char_of_four.ensures.value ∙ ap (λ n. utf8_point (escaped_bytes n c.args.units.now)) (sym four)
