use Rattle.std.proofs.Common.{arith}
use Rattle.js_search.proofs.Marks.{none_eight}
use Rattle.js_search.proofs.pairs.first_in.Goals as goal

pub loop-start-preserved : goal.loop-start-preserved
loop-start-preserved c =
    let low = c.loop-start.invariant.low in
    let room = c.loop-start-test.true in
    record {
      low = omega arith;
      high = omega arith;
      none = none_eight c.args.units.now c.args.pair c.loop-start.start c.if-not-has_some.ensures c.args.from c.loop-start.invariant.none;
    }
