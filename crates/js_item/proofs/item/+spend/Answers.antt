use Rattle.std.proofs.Common.{arith}
use Rattle.js_item.proofs.Sizes.{count_more, depth_more, count_most, depth_most}
use Rattle.js_item.proofs.item.+spend.Goals as goal

pub Object::spend-returns-then-rest-eq0 : goal.Object::spend-returns-then-rest-eq0
Object::spend-returns-then-rest-eq0 g t c d k =
    let most = count_most c.members-member-items.result.now c.args.self.now c.members-member-items.ensures.fields c.loop-member.member-index
    c.member-item.result c.loop-member-test.true c.member-item.is in
    omega (arith, most, c.loop-member.invariant.spent, c.if-rest-eq0.true)

pub Object::spend-spend-requires : goal.Object::spend-spend-requires
Object::spend-spend-requires g t c κs within =
    let most = count_most c.members-member-items.result.now c.args.self.now c.members-member-items.ensures.fields c.loop-member.member-index
    c.member-item.result c.loop-member-test.true c.member-item.is in
    (omega (arith, most, c.decreases), within)

pub Object::spend-returns-in-None : goal.Object::spend-returns-in-None
Object::spend-returns-in-None g t c d k =
    let most = count_most c.members-member-items.result.now c.args.self.now c.members-member-items.ensures.fields c.loop-member.member-index
    c.member-item.result c.loop-member-test.true c.member-item.is in
    let deep = depth_most c.members-member-items.result.now c.args.self.now c.members-member-items.ensures.fields c.loop-member.member-index
    c.member-item.result c.loop-member-test.true c.member-item.is in
    c.in-None.ensures (omega (arith, deep, d)) (omega (arith, most, c.loop-member.invariant.spent, k))

pub Object::spend-loop-member-preserved : goal.Object::spend-loop-member-preserved
Object::spend-loop-member-preserved g t c =
    let items = c.members-member-items.result.now in
    let i = c.loop-member.member-index in
    let i' = c.loop-member.invariant in
    let e = c.in-Some.ensures in
    let n = count_more items c.args.self.now c.members-member-items.ensures.fields i c.member-item.result c.loop-member-test.true c.member-item.is in
    let d = depth_more items c.args.self.now c.members-member-items.ensures.fields i c.member-item.result c.loop-member-test.true c.member-item.is in
    record {
      deep = omega (arith, d, i'.deep, e.0);
      spent = omega (arith, n, i'.spent, e.1, c.if-rest-eq0.false);
    }
