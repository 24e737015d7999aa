use Rattle.std.proofs.Common.{◌≡◌, ◌+◌, ◌*◌, ◌≤◌, take}
use Rattle.js_item.specs.Contents.{count, count_in}
use Rattle.js_item.specs.Fine.{depth}
use Rattle.js_item.specs.Views.{content_of, fields_of}
use Rattle.js_item.proofs.item.+spend.Given as goal

abbrev pub decreases-Item::spend : goal.decreases-Item::spend
decreases-Item::spend g l = 2 * count_in (content_of l.self.now) + 1

abbrev pub decreases-Object::spend : goal.decreases-Object::spend
decreases-Object::spend g l = 2 * count l.self.now

abbrev pub invariant-Object::spend-loop-member : goal.invariant-Object::spend-loop-member
invariant-Object::spend-loop-member g l = record {
  deep : depth (fields_of (take l.member-index l.member-items)) ≤ l.deep;
  spent : l.rest + count (fields_of (take l.member-index l.member-items)) ≡ l.left;
}
