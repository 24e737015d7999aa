use Rattle.std.proofs.Common.{◌∙◌, sym}
use Rattle.heap_intern.proofs.Packed.{lanes_on, next_rest, rest_lane}
use Rattle.heap_intern.proofs.table.packed.has_lanes.Goals as goal

pub returns-then-rest-base : goal.returns-then-rest-base
returns-then-rest-base c = let k = c.loop-k.k in let i = c.loop-k.invariant in
    let is = rest_lane c.args.wide c.args.word c.loop-k.rest c.lane_size-base.result k i.rest c.lane_size-base.ensures in
    (k, c.loop-k-test.true, λ same. c.if-rest-base.true (is ∙ (same ∙ sym c.from.ensures)))

pub loop-k-preserved : goal.loop-k-preserved
loop-k-preserved c = let k = c.loop-k.k in let i = c.loop-k.invariant in let wide = c.args.wide in let word = c.args.word in
    let is = rest_lane wide word c.loop-k.rest c.lane_size-base.result k i.rest c.lane_size-base.ensures in record {
      rest = next_rest wide word c.loop-k.rest c.lane_size-base.result k i.rest c.lane_size-base.ensures;
      same = lanes_on wide word c.args.units.now c.args.at k i.same (sym is ∙ (c.if-rest-base.false ∙ c.from.ensures));
    }
