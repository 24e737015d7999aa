use Rattle.std.proofs.Common.{◌≡◌, ◌+◌, ◌≤◌, length, arith}
use Rattle.js_uri.specs.Calls.{hold_of}
use Rattle.js_uri.specs.Pieces.{seen, taken_by, units_given}
use Rattle.js_uri.proofs.Decodings.{length_turn, length_given}
use Rattle.js_uri.proofs.decoding.decoded_len.Goals as goal

pub loop-rest-preserved : goal.loop-rest-preserved
loop-rest-preserved c =
    let us = c.loop-rest.rest.now in
    let vs = c.behind-rest.result.now in
    let piece = c.in-Some.piece in
    let most = c.loop-rest.invariant.most in
    let taken = c.in-Some.ensures.taken in
    let few = c.in-Some.ensures.most in
    let given = length_given piece us taken.1 in
    let taken_is = c.taken.ensures in
    let len_is = c.len.ensures in
    let shorter = c.behind-rest.ensures.shorter in
    let within : length us ≤ length c.args.units.now = omega (arith, most) in
    let less : length us ≡ taken_by piece + length vs = omega (arith, shorter, taken_is) in
    let count : c.len.result ≡ length (units_given piece us) = cc (len_is, given) in
    record {
      made = length_turn (hold_of c.args.part) c.args.units.now us vs (seen piece us) c.len.result c.loop-rest.len
          c.loop-rest.invariant.made c.in-Some.ensures.value taken.0 (rw taken_is at c.behind-rest.ensures.rest) less within count;
      most = omega (arith, most, few, taken, less, len_is);
    }
