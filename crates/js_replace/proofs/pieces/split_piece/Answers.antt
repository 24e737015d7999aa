use Rattle.std.proofs.Common.{sym, take, drop, length, ◌-◌}
use Rattle.js_texts.proofs.Lists.{rest_is}
use Rattle.js_replace.specs.Pieces.{piece_text}
use Rattle.js_replace.proofs.Templates.{plain_left, reference_left}
use Rattle.js_replace.proofs.pieces.split_piece.Goals as goal

pub returns-in-None-reference-clause-parts : goal.returns-in-None-reference-clause-parts
returns-in-None-reference-clause-parts c u at w =
    let t = c.args.template.now in
    let s = take (length t - 1) (drop 1 t) in
    plain_left u at w t s c.in_ok-first.field-0.now c.in-Some.second.now (rest_is t) c.in_ok-first.ensures.value c.in-Some.ensures.value (sym (c.in-None-reference.ensures u at w))

pub returns-in-Some-reference-clause-parts : goal.returns-in-Some-reference-clause-parts
returns-in-Some-reference-clause-parts c u at w =
    let t = c.args.template.now in
    let s = take (length t - 1) (drop 1 t) in
    let v = take (length s - 1) (drop 1 s) in
    reference_left u at w t s v c.in_ok-first.field-0.now c.in-Some.second.now (piece_text c.in-Some-reference.piece u at w) (rest_is t)
    (rest_is s) c.in_ok-first.ensures.value c.in-Some.ensures.value (sym (c.in-Some-reference.ensures u at w))
