use Rattle.std.proofs.Common.{◌≡◌, ◌≤◌, ◌+◌, ◌*◌, ◌++◌, drop, take}
use Rattle.js_store.specs.State.{Grows}
use Rattle.js_item.specs.Contents.{count, count_in}
use Rattle.js_item.specs.Views.{content_of}
use Rattle.js_object.specs.Json.{braced}
use Rattle.js_item.specs.Seen.{says}
use Rattle.js_object.proofs.Texts.{lent_shown}
use Rattle.js_item.specs.Fine.{strings_of, FineFields}
use Rattle.js_object.proofs.Settled.{SettledLent}
use Rattle.js_object.proofs.Uses.{lent_settle}
use Rattle.js_object.proofs.json.+json.Given as goal

abbrev pub decreases-append_item : goal.decreases-append_item
decreases-append_item g l = 2 * count_in (content_of l.item.now) + 1

abbrev pub decreases-append_object : goal.decreases-append_object
decreases-append_object g l = 2 * count l.of.now

abbrev pub invariant-append_object-loop-member : goal.invariant-append_object-loop-member
invariant-append_object-loop-member g l =
    let state = g.S.Strings.state in
    let a = state l.fn.store in
    let say = says a g.S.Strings.number in
    record {
      made : l.text ++ braced l.sep (lent_shown say (drop l.member-index l.member-items)) ≡ l.fn.text ++ braced 0x7B (lent_shown say l.member-items);
      grows : Grows a (state l.store);
      ids : (state l.store).used_ids ≤ a.used_ids;
      words : (state l.store).used_words + lent_settle a g.S.Strings.number (drop l.member-index l.member-items) ≤ a.used_words + lent_settle a g.S.Strings.number l.member-items;
      history : (state l.store).history ≡ a.history;
      settled : FineFields (strings_of a) g.S.Strings.number l.fn.of → SettledLent g.S.Strings.number (state l.store) (take l.member-index l.member-items);
    }
