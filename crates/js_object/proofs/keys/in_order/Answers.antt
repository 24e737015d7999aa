use Rattle.std.proofs.Common.{◌≡◌, ◌++◌, [], ◌∙◌, map, take, ap, refl}
use Rattle.std.proofs.lemmas.Result.{IfOk-weaker}
use Rattle.std.specs.BTreeMap.{values}
use Rattle.js_store.proofs.Laws.{step_trans}
use Rattle.js_object.specs.Keys.{index_in, ordered, key_values, member_entry, lent_entry, indexes, others}
use Rattle.js_item.proofs.Finding.{now_fine, first_fine}
use Rattle.js_object.proofs.Ordered.{index_still, indexes_turn, others_turn, ordered_end, entries_take, entries_all}
use Rattle.js_object.proofs.Orders.{members_order}
use Rattle.js_object.proofs.keys.in_order.Goals as goal

pub key_index-requires : goal.key_index-requires
key_index-requires g c =
    let state = g.S.Strings.state in
    now_fine (state c.args.store.now) (state c.loop-member.store) g.S.Strings.number c.loop-member.invariant.step.grows c.args.of.now
    c.members-member-items.result.now c.members-member-items.ensures.fields c.requires c.loop-member.member-index c.member-item.result
    c.loop-member-test.true c.member-item.is

pub returns-in_err-index-clause-uses : goal.returns-in_err-index-clause-uses
returns-in_err-index-clause-uses g c =
    let i = c.loop-member.invariant in
    let e = c.in_err-index.ensures.uses in
    record {
      step = step_trans i.step e.step;
      no_slots = tt;
      history = e.history ∙ i.history;
    }

pub returns-in_err-enter-clause-uses : goal.returns-in_err-enter-clause-uses
returns-in_err-enter-clause-uses g c =
    let i = c.loop-member.invariant in
    let e = c.in_ok-index.ensures.uses in
    record {
      step = step_trans i.step e.step;
      no_slots = tt;
      history = e.history ∙ i.history;
    }

pub loop-member-preserved : goal.loop-member-preserved
loop-member-preserved g c =
    let state = g.S.Strings.state in
    let a = state c.args.store.now in
    let b = state c.loop-member.store in
    let index = index_in a g.S.Strings.number in
    let items = c.members-member-items.result.now in
    let i = c.loop-member.member-index in
    let m = c.member-item.result in
    let grows = c.loop-member.invariant.step.grows in
    let fine = first_fine a b g.S.Strings.number grows c.args.of.now items c.members-member-items.ensures.fields c.requires i m c.loop-member-test.true c.member-item.is in
    let is : c.in_ok-index.index ≡ index (member_entry m) = c.in_ok-index.ensures.value ∙ index_still a b g.S.Strings.number grows (member_entry m) fine in
    let more = entries_take items i m c.loop-member-test.true c.member-item.is in
    record {
      indexes = indexes_turn lent_entry index _ (member_entry m) c.in_ok-index.index c.loop-member.indexes.entries
          c.enter.new.indexes.entries (map member_entry (take i items)) _ refl is c.loop-member.invariant.indexes c.in_ok-enter.ensures.indexes more;
      others = others_turn lent_entry index _ (member_entry m) c.in_ok-index.index c.loop-member.others.items c.enter.new.others.items
          (map member_entry (take i items)) _ refl is c.loop-member.invariant.others c.in_ok-enter.ensures.others more;
      step = step_trans c.loop-member.invariant.step c.in_ok-index.ensures.uses.step;
      history = c.in_ok-index.ensures.uses.history ∙ c.loop-member.invariant.history;
    }

pub returns-clause-value : goal.returns-clause-value
returns-clause-value g c =
    let a = g.S.Strings.state c.args.store.now in
    let index = index_in a g.S.Strings.number in
    let i = c.loop-member.member-index in
    let all : map member_entry (take i c.members-member-items.result.now) ≡ key_values c.args.of.now = entries_all
    c.members-member-items.result.now c.args.of.now i c.members-member-items.ensures.fields c.loop-member-test.false c.loop-member.auto.member-index-end in
    let e : map lent_entry (values c.loop-member.indexes ++ c.deref.result.now) ≡ ordered index (key_values c.args.of.now) = ordered_end
    lent_entry index c.loop-member.indexes.entries c.loop-member.others.items c.deref.result.now (key_values c.args.of.now)
    (c.loop-member.invariant.indexes ∙ ap (λ es. indexes index es []) all) (c.loop-member.invariant.others ∙ ap (λ es. others index es) all) c.deref.ensures.value in
    IfOk-weaker c.listed.result _ _ (λ ks k. ap (map lent_entry) k ∙ e) c.listed.ensures

pub returns-clause-order : goal.returns-clause-order
returns-clause-order g c =
    let a = g.S.Strings.state c.args.store.now in
    IfOk-weaker c.listed.result _ _ (λ ks e d. members_order a g.S.Strings.number c.args.of.now (map lent_entry ks.items) e d) (returns-clause-value g c)
