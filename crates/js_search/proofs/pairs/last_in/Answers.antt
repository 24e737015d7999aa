use Rattle.std.proofs.Common.{◌≡◌, ◌+◌, ◌-◌, arith}
use Rattle.js_search.proofs.Marks.{none_eight_down}
use Rattle.js_search.proofs.pairs.last_in.Goals as goal

pub loop-left-preserved : goal.loop-left-preserved
loop-left-preserved c =
    let high = c.loop-left.invariant.high in
    let room = c.loop-left-test.true in
    let e : c.loop-left.left - 8 + 8 ≡ c.loop-left.left = omega arith in
    record {
      high = omega arith;
      none = none_eight_down c.args.units.now c.args.pair (c.loop-left.left - 8) c.if-not-has_some.ensures c.args.end (λ k a b. c.loop-left.invariant.none k (omega arith) b);
    }
