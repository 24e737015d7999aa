use Rattle.std.proofs.Common.{◌≡◌, ◌∙◌, arith, sym, map}
use Rattle.std.proofs.lemmas.Result.{err_from_is_err_and}
use Rattle.js_store.proofs.Laws.{grows_trans}
use Rattle.js_texts.proofs.Lists.{on_ok_map}
use Rattle.js_item.specs.Fine.{strings_of}
use Rattle.js_object.specs.Keys.{index_in, ordered, key_values, lent_entry}
use Rattle.js_item.specs.Seen.{says}
use Rattle.js_object.proofs.Readable.{readable_keys}
use Rattle.js_object.proofs.Texts.{key_fine, item_ready, item_smaller, turn_shown, skip_turn, json_end}
use Rattle.js_object.proofs.Uses.{key_uses, item_uses, words_shown, words_skipped, all_uses, none_told}
use Rattle.js_object.proofs.Settled.{lent_told, lent_passed, lent_end, on_ok_always}
use Rattle.js_object.proofs.json.+json.Goals as goal
use Rattle.js_object.proofs.json.+json.Goals.{append_object-then-is_shown+in_ok-append_key+in_ok-append_item, append_object-else-is_shown}

pub append_object-in_order-requires : goal.append_object-in_order-requires
append_object-in_order-requires g t c = readable_keys (strings_of (g.S.Strings.state c.args.store.now)) g.S.Strings.number c.args.of.now c.requires

pub append_object-append_key-requires : goal.append_object-append_key-requires
append_object-append_key-requires g t c =
    let state = g.S.Strings.state in
    let ms = c.deref-member-items.result.now in
    let a = state c.args.store.now in
    let order : map lent_entry ms ≡ ordered (index_in a g.S.Strings.number) (key_values c.args.of.now) = rw c.deref-member-items.ensures.value c.in_ok-members.ensures.value in
    key_fine a (state c.loop-member.store) g.S.Strings.number c.loop-member.invariant.grows c.args.of.now c.requires ms order
    c.loop-member.member-index c.member-item.result c.loop-member-test.true c.member-item.is

pub append_object-append_item-requires : goal.append_object-append_item-requires
append_object-append_item-requires g t c κs within =
    let state = g.S.Strings.state in
    let ms = c.deref-member-items.result.now in
    let a = state c.args.store.now in
    let d = state c.append_key.new.store in
    let grows = grows_trans c.loop-member.invariant.grows c.in_ok-append_key.ensures.uses.step.grows in
    let order : map lent_entry ms ≡ ordered (index_in a g.S.Strings.number) (key_values c.args.of.now) = rw c.deref-member-items.ensures.value c.in_ok-members.ensures.value in
    let smaller = item_smaller a d g.S.Strings.number grows c.args.of.now c.requires ms order c.loop-member.member-index c.member-item.result c.loop-member-test.true c.member-item.is in
    let ready = item_ready a d g.S.Strings.number grows c.args.of.now c.requires ms order c.loop-member.member-index c.member-item.result c.loop-member-test.true c.member-item.is in
    (omega (arith, smaller, c.decreases), (within.0, (within.1, ready)))

pub append_object-loop-member-preserved : goal.append_object-loop-member-preserved
append_object-loop-member-preserved g t c =
    let state = g.S.Strings.state in
    let ms = c.deref-member-items.result.now in
    let a = state c.args.store.now in
    let b = state c.loop-member.store in
    let i = c.loop-member.invariant in
    let order : map lent_entry ms ≡ ordered (index_in a g.S.Strings.number) (key_values c.args.of.now) = rw c.deref-member-items.ensures.value c.in_ok-members.ensures.value in
    elim c.if-is_shown.branch [
      | append_object-then-is_shown+in_ok-append_key+in_ok-append_item w ↦ rw (w.store-is, w.text-is, w.sep-is) (
          let k = w.in_ok-append_key.ensures in
          let v = w.in_ok-append_item.ensures in
          record {
            made = turn_shown a b g.S.Strings.number i.grows c.args.of.now c.requires ms order c.loop-member.member-index c.member-item.result c.loop-member-test.true c.member-item.is
                (state w.append_key.new.store) (grows_trans i.grows k.uses.step.grows) c.loop-member.text w.append_key.new.text
                w.append_item.new.text c.loop-member.sep (sym c.is_shown.ensures ∙ w.if-is_shown.true) k.added v.added ∙ i.made;
            grows = grows_trans i.grows (grows_trans k.uses.step.grows v.uses.step.grows);
            ids = (words_shown a b (state w.append_key.new.store) g.S.Strings.number i.grows (grows_trans i.grows k.uses.step.grows)
                c.args.of.now c.requires ms order c.loop-member.member-index c.member-item.result c.loop-member-test.true c.member-item.is
                i.ids i.words (state w.append_item.new.store) k.uses.step v.uses.step).0;
            words = (words_shown a b (state w.append_key.new.store) g.S.Strings.number i.grows (grows_trans i.grows k.uses.step.grows)
                c.args.of.now c.requires ms order c.loop-member.member-index c.member-item.result c.loop-member-test.true c.member-item.is
                i.ids i.words (state w.append_item.new.store) k.uses.step v.uses.step).1;
            history = v.uses.history ∙ (k.uses.history ∙ i.history);
            settled = lent_told a g.S.Strings.number c.args.of.now ms order c.loop-member.member-index c.member-item.result
                c.loop-member-test.true c.member-item.is b (state w.append_key.new.store) (state w.append_item.new.store)
                (grows_trans i.grows k.uses.step.grows) (grows_trans k.uses.step.grows v.uses.step.grows) i.settled v.settled;
          })
      | append_object-else-is_shown w ↦ rw (w.store-is, w.text-is, w.sep-is) (record {
        made = skip_turn (says a g.S.Strings.number) c.loop-member.text c.loop-member.sep ms c.loop-member.member-index c.member-item.result
            c.loop-member-test.true c.member-item.is (sym c.is_shown.ensures ∙ w.if-is_shown.false) ∙ i.made;
        grows = i.grows;
        ids = i.ids;
        words = words_skipped a b b g.S.Strings.number i.grows i.grows c.args.of.now c.requires ms order c.loop-member.member-index
            c.member-item.result c.loop-member-test.true c.member-item.is i.ids i.words;
        history = i.history;
        settled = lent_passed a g.S.Strings.number c.args.of.now ms order c.loop-member.member-index c.member-item.result
            c.loop-member-test.true c.member-item.is b (sym c.is_shown.ensures ∙ w.if-is_shown.false) i.settled;
      })
    ]

pub append_object-returns-clause-added : goal.append_object-returns-clause-added
append_object-returns-clause-added g t c =
    let a = g.S.Strings.state c.args.store.now in
    let ms = c.deref-member-items.result.now in
    let order : map lent_entry ms ≡ ordered (index_in a g.S.Strings.number) (key_values c.args.of.now) = rw c.deref-member-items.ensures.value c.in_ok-members.ensures.value in
    on_ok_map _ _ c.append_end.result
    (λ e. json_end (says a g.S.Strings.number) c.args.of.now ms c.loop-member.member-index c.args.text.now c.loop-member.text
    c.append_end.new.text c.loop-member.sep order c.loop-member-test.false c.loop-member.invariant.made e)
    c.append_end.ensures.added

pub append_object-returns-in_err-append_key-clause-uses : goal.append_object-returns-in_err-append_key-clause-uses
append_object-returns-in_err-append_key-clause-uses g t c =
    let state = g.S.Strings.state in
    let ms = c.deref-member-items.result.now in
    let a = state c.args.store.now in
    let b = state c.loop-member.store in
    let i = c.loop-member.invariant in
    let order : map lent_entry ms ≡ ordered (index_in a g.S.Strings.number) (key_values c.args.of.now) = rw c.deref-member-items.ensures.value c.in_ok-members.ensures.value in
    let p = err_from_is_err_and c.from_residual-in_err-append_key.result c.from_residual-in_err-append_key.ensures.1 in
    let e = c.in_err-append_key.ensures.uses in
    rw (p.1, p.2) (record {
      step = key_uses a b b g.S.Strings.number i.grows i.grows c.args.of.now c.requires ms order c.loop-member.member-index
          c.member-item.result c.loop-member-test.true c.member-item.is i.ids i.words _ _ e.step;
      no_slots = e.no_slots;
      history = e.history ∙ i.history;
    })

pub append_object-returns-in_err-append_item-clause-uses : goal.append_object-returns-in_err-append_item-clause-uses
append_object-returns-in_err-append_item-clause-uses g t c =
    let state = g.S.Strings.state in
    let ms = c.deref-member-items.result.now in
    let a = state c.args.store.now in
    let b = state c.loop-member.store in
    let i = c.loop-member.invariant in
    let k = c.in_ok-append_key.ensures.uses in
    let order : map lent_entry ms ≡ ordered (index_in a g.S.Strings.number) (key_values c.args.of.now) = rw c.deref-member-items.ensures.value c.in_ok-members.ensures.value in
    let p = err_from_is_err_and c.from_residual-in_err-append_item.result c.from_residual-in_err-append_item.ensures.1 in
    let e = c.in_err-append_item.ensures.uses in
    rw (p.1, p.2) (record {
      step = item_uses a b (state c.append_key.new.store) g.S.Strings.number i.grows (grows_trans i.grows k.step.grows) c.args.of.now
          c.requires ms order c.loop-member.member-index c.member-item.result c.loop-member-test.true c.member-item.is i.ids i.words _ _ k.step e.step;
      no_slots = e.no_slots;
      history = e.history ∙ (k.history ∙ i.history);
    })

pub append_object-returns-clause-uses : goal.append_object-returns-clause-uses
append_object-returns-clause-uses g t c =
    let state = g.S.Strings.state in
    let ms = c.deref-member-items.result.now in
    let a = state c.args.store.now in
    let i = c.loop-member.invariant in
    let order : map lent_entry ms ≡ ordered (index_in a g.S.Strings.number) (key_values c.args.of.now) = rw c.deref-member-items.ensures.value c.in_ok-members.ensures.value in
    rw (none_told c.append_end.result c.append_end.ensures.fault) (record {
      step = all_uses a (state c.loop-member.store) g.S.Strings.number c.args.of.now ms _ order i.grows i.ids i.words;
      no_slots = tt;
      history = i.history;
    })

pub append_object-returns-clause-settled : goal.append_object-returns-clause-settled
append_object-returns-clause-settled g t c =
    let a = g.S.Strings.state c.args.store.now in
    let ms = c.deref-member-items.result.now in
    let order : map lent_entry ms ≡ ordered (index_in a g.S.Strings.number) (key_values c.args.of.now) = rw c.deref-member-items.ensures.value c.in_ok-members.ensures.value in
    on_ok_always c.append_end.result _ (lent_end a g.S.Strings.number c.args.of.now ms order (g.S.Strings.state c.loop-member.store)
    c.loop-member.member-index c.loop-member-test.false c.loop-member.auto.member-index-end c.loop-member.invariant.settled)
