use Rattle.std.proofs.Common.{◌≡◌, ◌+◌, ◌≤◌, ◌∷◌, length, arith, Some}
use Rattle.std.specs.Prelude.{option_map}
use Rattle.js_units.specs.Text.{points, utf16_of}
use Rattle.js_uri.specs.Outcome.{measure}
use Rattle.js_uri.specs.Calls.{keep_of}
use Rattle.js_uri.specs.Encoding.{encoded, encoded_point}
use Rattle.js_uri.proofs.Outcomes.{counted_start}
use Rattle.js_uri.proofs.Encodings.{length_turn}
use Rattle.js_uri.proofs.encoding.encoded_len.Goals as goal

pub loop-point-init : goal.loop-point-init
loop-point-init c = record {
  made = counted_start (length c.args.units.now) (measure (encoded c.args.units.now (keep_of c.args.part)));
  most = omega arith;
}

pub loop-point-preserved : goal.loop-point-preserved
loop-point-preserved c =
    let us = c.loop-point.rest.now in
    let vs = c.in-Some.behind.now in
    let here : points us ≡ c.in-Some.point ∷ points vs = c.in-Some.ensures.parts.0 in
    let less : length us ≡ length (utf16_of c.in-Some.point) + length vs = c.in-Some.ensures.parts.1 in
    let most = c.loop-point.invariant.most in
    let within : length us ≤ length c.args.units.now = omega arith in
    let more : Some c.in-Some-point_len.n ≡ option_map length (encoded_point (keep_of c.args.part) c.in-Some.point) = c.in-Some-point_len.ensures.value in
    let few = c.in-Some-point_len.ensures.most in
    let shorter = c.in-Some.ensures.parts.2 in
    record {
      made = length_turn (keep_of c.args.part) c.args.units.now us vs c.in-Some.point c.in-Some-point_len.n c.loop-point.len c.loop-point.invariant.made here less within more;
      most = omega (arith, few, shorter, most);
    }
