use Rattle.std.proofs.Common.{◌≡◌, ◌++◌}
use Rattle.js_uri.specs.Outcome.{units as units_of}
use Rattle.js_uri.specs.Calls.{hold_of}
use Rattle.js_uri.specs.Decoding.{decoded}
use Rattle.js_uri.specs.Pieces.{seen, units_given}
use Rattle.js_uri.proofs.Decodings.{rest_is_ok, units_turn}
use Rattle.js_uri.proofs.decoding.push_decoded.Goals as goal

pub loop-piece-preserved : goal.loop-piece-preserved
loop-piece-preserved c =
    let us = c.loop-piece.rest.now in
    let vs = c.behind-rest.result.now in
    let hold = hold_of c.args.part in
    let piece = c.in-Some.piece in
    let taken_is = c.taken.ensures in
    let rest = rw taken_is at c.behind-rest.ensures.rest in
    let value = c.in-Some.ensures.value in
    let taken = c.in-Some.ensures.taken in
    let added : c.push_to.new.text ≡ c.loop-piece.text ++ units_given piece us = c.in_ok-push_to.ensures.added in
    record {
      fine = rest_is_ok hold us vs (seen piece us) value taken.0 rest c.loop-piece.invariant.fine;
      made = units_turn hold c.loop-piece.text c.push_to.new.text (c.args.text.now ++ units_of (decoded c.args.units.now hold)) us vs
          (seen piece us) value taken.0 rest c.loop-piece.invariant.fine added c.loop-piece.invariant.made;
    }
