use Rattle.std.proofs.Common.{◌≡◌, ◌+◌, ◌*◌, ◌≤◌, drop}
use Rattle.js_store.specs.State.{Grows}
use Rattle.js_item.specs.Contents.{count, count_in}
use Rattle.js_item.specs.Views.{content_of}
use Rattle.js_item.specs.Seen.{says}
use Rattle.js_object.proofs.Texts.{lent_shown}
use Rattle.js_object.proofs.Lengths.{lent_weight, units_of}
use Rattle.js_object.proofs.Uses.{lent_settle}
use Rattle.js_object.proofs.json_len.+json_len.Given as goal

abbrev pub decreases-item_len : goal.decreases-item_len
decreases-item_len g l = 2 * count_in (content_of l.item.now) + 1

abbrev pub decreases-object_len : goal.decreases-object_len
decreases-object_len g l = 2 * count l.of.now

abbrev pub invariant-object_len-loop-member : goal.invariant-object_len-loop-member
invariant-object_len-loop-member g l =
    let state = g.S.Strings.state in
    let a = state l.fn.store in
    let say = says a g.S.Strings.number in
    record {
      units : l.len + units_of (lent_shown say (drop l.member-index l.member-items)) ≡ 1 + units_of (lent_shown say l.member-items);
      most : l.len + 158456325028528675187087900672 * lent_weight (drop l.member-index l.member-items) ≤ 1 + 158456325028528675187087900672 * lent_weight l.member-items;
      grows : Grows a (state l.store);
      ids : (state l.store).used_ids ≤ a.used_ids;
      words : (state l.store).used_words + lent_settle a g.S.Strings.number (drop l.member-index l.member-items) ≤ a.used_words + lent_settle a g.S.Strings.number l.member-items;
      history : (state l.store).history ≡ a.history;
    }
