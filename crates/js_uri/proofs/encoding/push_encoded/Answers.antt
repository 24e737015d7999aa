use Rattle.std.proofs.Common.{◌≡◌, ◌∷◌, ◌++◌, []}
use Rattle.std.specs.Prelude.{unwrap_or}
use Rattle.js_units.specs.Text.{points}
use Rattle.js_uri.specs.Outcome.{units as units_of}
use Rattle.js_uri.specs.Calls.{keep_of}
use Rattle.js_uri.specs.Encoding.{encoded, encoded_point}
use Rattle.js_uri.proofs.Encodings.{rest_is_ok, units_turn}
use Rattle.js_uri.proofs.encoding.push_encoded.Goals as goal

pub loop-point-preserved : goal.loop-point-preserved
loop-point-preserved c =
    let us = c.loop-point.rest.now in
    let vs = c.in-Some.behind.now in
    let keep = keep_of c.args.part in
    let here : points us ≡ c.in-Some.point ∷ points vs = c.in-Some.ensures.parts.0 in
    let added : c.push_point.new.text ≡ c.loop-point.text ++ unwrap_or (encoded_point keep c.in-Some.point) [] = c.in_ok-push_point.ensures.added in
    record {
      fine = rest_is_ok keep us vs c.in-Some.point here c.loop-point.invariant.fine;
      made = units_turn keep c.loop-point.text c.push_point.new.text (c.args.text.now ++ units_of (encoded c.args.units.now keep)) us vs
          c.in-Some.point here c.loop-point.invariant.fine added c.loop-point.invariant.made;
    }
