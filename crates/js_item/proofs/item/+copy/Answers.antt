use Rattle.std.proofs.Common.{◌≡◌, ◌<◌, ap, arith}
use Rattle.js_item.specs.Contents.{count, count_in}
use Rattle.js_item.specs.Views.{content_of, fields_of}
use Rattle.js_item.proofs.Members.{count_at, copy_turn}
use Rattle.js_item.proofs.item.+copy.Goals as goal

pub Object::copy-copy-requires : goal.Object::copy-copy-requires
Object::copy-copy-requires g t c κs within =
    let items = c.members-member-items.result.now in
    let m = c.member-item.result in
    let below : count_in (content_of m.value) < count (fields_of items) = count_at items c.loop-member.member-index m c.loop-member-test.true c.member-item.is in
    let whole : count (fields_of items) ≡ count c.args.self.now = ap count {y = c.args.self.now} c.members-member-items.ensures.fields in
    (omega (arith, below, whole, c.decreases), within)

pub Object::copy-loop-member-preserved : goal.Object::copy-loop-member-preserved
Object::copy-loop-member-preserved g t c =
    copy_turn c.loop-member.copies.items c.push.new.self.items c.members-member-items.result.now c.loop-member.member-index
    c.member-item.result c.in_ok-value.value c.loop-member-test.true c.member-item.is c.loop-member.invariant c.in_ok-value.ensures c.in_ok-push.ensures.items
