use Rattle.std.proofs.Common.{◌≡◌, ◌∙◌, arith, sym, map}
use Rattle.std.proofs.lemmas.Result.{err_from_is_err_and}
use Rattle.js_store.proofs.Laws.{grows_trans}
use Rattle.js_item.specs.Fine.{strings_of}
use Rattle.js_object.specs.Keys.{index_in, ordered, key_values, lent_entry}
use Rattle.js_item.specs.Seen.{says}
use Rattle.js_object.proofs.Readable.{readable_keys}
use Rattle.js_object.proofs.Texts.{key_fine, item_ready, item_smaller}
use Rattle.js_object.proofs.Lengths.{lent_weighs, len_shown, len_skipped, most_shown, most_skipped, len_fits, len_none, len_some}
use Rattle.js_object.proofs.Uses.{key_uses, item_uses, words_shown, words_skipped, all_uses}
use Rattle.js_object.proofs.json_len.+json_len.Goals as goal
use Rattle.js_object.proofs.json_len.+json_len.Goals.{object_len-then-is_shown+in_ok-key+in_ok-value, object_len-else-is_shown, object_len-then-len-lt2, object_len-else-len-lt2}

pub object_len-in_order-requires : goal.object_len-in_order-requires
object_len-in_order-requires g t c = readable_keys (strings_of (g.S.Strings.state c.args.store.now)) g.S.Strings.number c.args.of.now c.requires.readable

pub object_len-key_len-requires : goal.object_len-key_len-requires
object_len-key_len-requires g t c =
    let state = g.S.Strings.state in
    let ms = c.deref-member-items.result.now in
    let a = state c.args.store.now in
    let order : map lent_entry ms ≡ ordered (index_in a g.S.Strings.number) (key_values c.args.of.now) = rw c.deref-member-items.ensures.value c.in_ok-members.ensures.value in
    key_fine a (state c.loop-member.store) g.S.Strings.number c.loop-member.invariant.grows c.args.of.now c.requires.readable ms order
    c.loop-member.member-index c.member-item.result c.loop-member-test.true c.member-item.is

pub object_len-item_len-requires : goal.object_len-item_len-requires
object_len-item_len-requires g t c κs within =
    let state = g.S.Strings.state in
    let ms = c.deref-member-items.result.now in
    let a = state c.args.store.now in
    let d = state c.key_len.new.store in
    let grows = grows_trans c.loop-member.invariant.grows c.in_ok-key.ensures.uses.step.grows in
    let order : map lent_entry ms ≡ ordered (index_in a g.S.Strings.number) (key_values c.args.of.now) = rw c.deref-member-items.ensures.value c.in_ok-members.ensures.value in
    let smaller = item_smaller a d g.S.Strings.number grows c.args.of.now c.requires.readable ms order c.loop-member.member-index c.member-item.result c.loop-member-test.true c.member-item.is in
    let ready = item_ready a d g.S.Strings.number grows c.args.of.now c.requires.readable ms order c.loop-member.member-index c.member-item.result c.loop-member-test.true c.member-item.is in
    (omega (arith, smaller, c.decreases), (within.0, (within.1, (ready, omega (arith, smaller, c.requires.many)))))

pub object_len-overflow_add-len-then-is_shown-2 : goal.object_len-overflow_add-len-then-is_shown-2
object_len-overflow_add-len-then-is_shown-2 g t c =
    let state = g.S.Strings.state in
    let ms = c.deref-member-items.result.now in
    let a = state c.args.store.now in
    let b = state c.loop-member.store in
    let d = state c.key_len.new.store in
    let order : map lent_entry ms ≡ ordered (index_in a g.S.Strings.number) (key_values c.args.of.now) = rw c.deref-member-items.ensures.value c.in_ok-members.ensures.value in
    let fits = len_fits a b d g.S.Strings.number c.loop-member.invariant.grows
    (grows_trans c.loop-member.invariant.grows c.in_ok-key.ensures.uses.step.grows) c.args.of.now c.requires.readable ms order
    c.loop-member.member-index c.member-item.result c.loop-member-test.true c.member-item.is
    c.loop-member.len c.loop-member.invariant.most c.in_ok-key.key c.in_ok-value.value c.requires.many c.in_ok-key.ensures.most c.in_ok-value.ensures.most in
    omega (arith, fits)

pub object_len-overflow_add-len-then-is_shown : goal.object_len-overflow_add-len-then-is_shown
object_len-overflow_add-len-then-is_shown g t c =
    let state = g.S.Strings.state in
    let ms = c.deref-member-items.result.now in
    let a = state c.args.store.now in
    let b = state c.loop-member.store in
    let d = state c.key_len.new.store in
    let order : map lent_entry ms ≡ ordered (index_in a g.S.Strings.number) (key_values c.args.of.now) = rw c.deref-member-items.ensures.value c.in_ok-members.ensures.value in
    let fits = len_fits a b d g.S.Strings.number c.loop-member.invariant.grows
    (grows_trans c.loop-member.invariant.grows c.in_ok-key.ensures.uses.step.grows) c.args.of.now c.requires.readable ms order
    c.loop-member.member-index c.member-item.result c.loop-member-test.true c.member-item.is
    c.loop-member.len c.loop-member.invariant.most c.in_ok-key.key c.in_ok-value.value c.requires.many c.in_ok-key.ensures.most c.in_ok-value.ensures.most in
    omega (arith, fits)

pub object_len-loop-member-preserved : goal.object_len-loop-member-preserved
object_len-loop-member-preserved g t c =
    let state = g.S.Strings.state in
    let number = g.S.Strings.number in
    let ms = c.deref-member-items.result.now in
    let a = state c.args.store.now in
    let b = state c.loop-member.store in
    let i = c.loop-member.invariant in
    let order : map lent_entry ms ≡ ordered (index_in a number) (key_values c.args.of.now) = rw c.deref-member-items.ensures.value c.in_ok-members.ensures.value in
    elim c.if-is_shown.branch [
      | object_len-then-is_shown+in_ok-key+in_ok-value w ↦ rw w.store-is (
          let k = w.in_ok-key.ensures in
          let v = w.in_ok-value.ensures in
          let d = state w.key_len.new.store in
          let h = grows_trans i.grows k.uses.step.grows in
          record {
            units = len_shown a b d number i.grows h c.args.of.now c.requires.readable ms order c.loop-member.member-index c.member-item.result c.loop-member-test.true c.member-item.is
                c.loop-member.len c.if-is_shown.len w.in_ok-key.key w.in_ok-value.value (sym c.is_shown.ensures ∙ w.if-is_shown.true) k.value v.value w.len-is ∙ i.units;
            most = most_shown a b d number i.grows h c.args.of.now c.requires.readable ms order c.loop-member.member-index c.member-item.result c.loop-member-test.true c.member-item.is
                c.loop-member.len i.most c.if-is_shown.len w.in_ok-key.key w.in_ok-value.value k.most v.most w.len-is;
            grows = grows_trans i.grows (grows_trans k.uses.step.grows v.uses.step.grows);
            ids = (words_shown a b d number i.grows h c.args.of.now c.requires.readable ms order c.loop-member.member-index
                c.member-item.result c.loop-member-test.true c.member-item.is i.ids i.words (state w.item_len.new.store) k.uses.step v.uses.step).0;
            words = (words_shown a b d number i.grows h c.args.of.now c.requires.readable ms order c.loop-member.member-index
                c.member-item.result c.loop-member-test.true c.member-item.is i.ids i.words (state w.item_len.new.store) k.uses.step v.uses.step).1;
            history = v.uses.history ∙ (k.uses.history ∙ i.history);
          })
      | object_len-else-is_shown w ↦ rw w.store-is (
          let skipped = len_skipped a b b number i.grows i.grows c.args.of.now c.requires.readable ms order c.loop-member.member-index
          c.member-item.result c.loop-member-test.true c.member-item.is (sym c.is_shown.ensures ∙ w.if-is_shown.false) in
          let most = most_skipped a b b number i.grows i.grows c.args.of.now c.requires.readable ms order c.loop-member.member-index
          c.member-item.result c.loop-member-test.true c.member-item.is c.loop-member.len i.most in
          record {
            units = omega (arith, skipped, w.len-is, i.units);
            most = omega (arith, most, w.len-is);
            grows = i.grows;
            ids = i.ids;
            words = words_skipped a b b number i.grows i.grows c.args.of.now c.requires.readable ms order c.loop-member.member-index
                c.member-item.result c.loop-member-test.true c.member-item.is i.ids i.words;
            history = i.history;
          })
    ]

pub object_len-returns-clause-value : goal.object_len-returns-clause-value
object_len-returns-clause-value g t c =
    let a = g.S.Strings.state c.args.store.now in
    let say = says a g.S.Strings.number in
    let ms = c.deref-member-items.result.now in
    let order : map lent_entry ms ≡ ordered (index_in a g.S.Strings.number) (key_values c.args.of.now) = rw c.deref-member-items.ensures.value c.in_ok-members.ensures.value in
    elim c.if-len-lt2.branch [
      | object_len-then-len-lt2 w ↦ w.result-is ∙ len_none say c.args.of.now ms c.loop-member.member-index c.loop-member.len order
          c.loop-member-test.false c.loop-member.invariant.units w.if-len-lt2.true
      | object_len-else-len-lt2 w ↦ w.result-is ∙ len_some say c.args.of.now ms c.loop-member.member-index c.loop-member.len order
          c.loop-member-test.false c.loop-member.invariant.units w.if-len-lt2.false
    ]

pub object_len-returns-clause-most : goal.object_len-returns-clause-most
object_len-returns-clause-most g t c =
    let a = g.S.Strings.state c.args.store.now in
    let ms = c.deref-member-items.result.now in
    let order : map lent_entry ms ≡ ordered (index_in a g.S.Strings.number) (key_values c.args.of.now) = rw c.deref-member-items.ensures.value c.in_ok-members.ensures.value in
    let weighs = lent_weighs (index_in a g.S.Strings.number) c.args.of.now ms order in
    elim c.if-len-lt2.branch [
      | object_len-then-len-lt2 w ↦ omega (arith, w.result-is)
      | object_len-else-len-lt2 w ↦ omega (arith, w.result-is, c.loop-member.invariant.most, weighs)
    ]

pub object_len-returns-in_err-key-clause-uses : goal.object_len-returns-in_err-key-clause-uses
object_len-returns-in_err-key-clause-uses g t c =
    let state = g.S.Strings.state in
    let ms = c.deref-member-items.result.now in
    let a = state c.args.store.now in
    let b = state c.loop-member.store in
    let i = c.loop-member.invariant in
    let order : map lent_entry ms ≡ ordered (index_in a g.S.Strings.number) (key_values c.args.of.now) = rw c.deref-member-items.ensures.value c.in_ok-members.ensures.value in
    let p = err_from_is_err_and c.from_residual-in_err-key.result c.from_residual-in_err-key.ensures.1 in
    let e = c.in_err-key.ensures.uses in
    rw (p.1, p.2) (record {
      step = key_uses a b b g.S.Strings.number i.grows i.grows c.args.of.now c.requires.readable ms order c.loop-member.member-index
          c.member-item.result c.loop-member-test.true c.member-item.is i.ids i.words _ _ e.step;
      no_slots = e.no_slots;
      history = e.history ∙ i.history;
    })

pub object_len-returns-in_err-value-clause-uses : goal.object_len-returns-in_err-value-clause-uses
object_len-returns-in_err-value-clause-uses g t c =
    let state = g.S.Strings.state in
    let ms = c.deref-member-items.result.now in
    let a = state c.args.store.now in
    let b = state c.loop-member.store in
    let i = c.loop-member.invariant in
    let order : map lent_entry ms ≡ ordered (index_in a g.S.Strings.number) (key_values c.args.of.now) = rw c.deref-member-items.ensures.value c.in_ok-members.ensures.value in
    let k = c.in_ok-key.ensures.uses in
    let p = err_from_is_err_and c.from_residual-in_err-value.result c.from_residual-in_err-value.ensures.1 in
    let e = c.in_err-value.ensures.uses in
    rw (p.1, p.2) (record {
      step = item_uses a b (state c.key_len.new.store) g.S.Strings.number i.grows (grows_trans i.grows k.step.grows) c.args.of.now
          c.requires.readable ms order c.loop-member.member-index c.member-item.result c.loop-member-test.true c.member-item.is i.ids i.words _ _ k.step e.step;
      no_slots = e.no_slots;
      history = e.history ∙ (k.history ∙ i.history);
    })

pub object_len-returns-clause-uses : goal.object_len-returns-clause-uses
object_len-returns-clause-uses g t c =
    let state = g.S.Strings.state in
    let ms = c.deref-member-items.result.now in
    let a = state c.args.store.now in
    let b = state c.loop-member.store in
    let i = c.loop-member.invariant in
    let order : map lent_entry ms ≡ ordered (index_in a g.S.Strings.number) (key_values c.args.of.now) = rw c.deref-member-items.ensures.value c.in_ok-members.ensures.value in
    record {
      step = all_uses a b g.S.Strings.number c.args.of.now ms _ order i.grows i.ids i.words;
      no_slots = tt;
      history = i.history;
    }
