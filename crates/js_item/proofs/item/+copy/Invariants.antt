use Rattle.std.proofs.Common.{◌≡◌, ◌+◌, ◌*◌, take}
use Rattle.js_item.specs.Contents.{count, count_in}
use Rattle.js_item.specs.Views.{content_of, fields_of}
use Rattle.js_item.proofs.item.+copy.Given as goal

abbrev pub decreases-Item::copy : goal.decreases-Item::copy
decreases-Item::copy g l = 2 * count_in (content_of l.self.now) + 1

abbrev pub decreases-Object::copy : goal.decreases-Object::copy
decreases-Object::copy g l = 2 * count l.self.now

abbrev pub invariant-Object::copy-loop-member : goal.invariant-Object::copy-loop-member
invariant-Object::copy-loop-member g l = fields_of l.copies.items ≡ fields_of (take l.member-index l.member-items)
