use Rattle.std.proofs.Common.{arith, ◌≡◌, ℕ, List, ◌∙◌, ap, subst, ◌-◌, ◌+◌, ◌++◌, ◌∷◌, [], length, take, drop, get_or}
use Rattle.std.proofs.lemmas.List.{take_all}
use Rattle.std.specs.Prelude.{None, slice_range}
use Rattle.std.proofs.lemmas.Result.{err_from_is_err_and}
use Rattle.js_store.specs.Faults.{StoreStep}
use Rattle.js_store.specs.State.{text}
use Rattle.js_store.proofs.Laws.{text_still}
use Rattle.js_texts.specs.Texts.{known_texts}
use Rattle.js_replace.specs.Parts.{pieces}
use Rattle.js_replace.specs.Use.{copies_words}
use Rattle.js_replace.proofs.Cutting.{refused, answered, more_parts, no_more, range_length, piece_turn, order_turn, last_piece, last_order}
use Rattle.js_replace.proofs.splitting.cut_at.Goals as goal

pub returns-in_err-push_part-clause-uses : goal.returns-in_err-push_part-clause-uses
returns-in_err-push_part-clause-uses g c =
    let state = g.S.Strings.state in
    let number = g.S.Strings.number in
    let u = text (state c.args.store.now) (number c.args.s) in
    let places = c.args.places.now in
    let size = c.args.size in
    let limit = c.args.limit in
    let from = c.loop-at.from in
    let k = c.loop-at.at-index in
    let i = c.loop-at.invariant in
    let at = get_or places k 0 in
    let below = c.loop-at-test.true in
    let count = c.requires.count in
    let o = order_turn (length u) size from places k below i.order in
    let room = o.1 in
    let p = err_from_is_err_and c.from_residual.result c.from_residual.ensures.1 in
    let e = c.in_err-push_part.ensures.uses in
    rw (p.1, p.2) (record {
      step = refused (at - from) (limit - k) (limit - (k + 1)) (known_texts (state c.loop-at.store) number c.loop-at.parts.items)
          (pieces u size from (drop k places)) (pieces u size (at + size) (drop (k + 1) places)) (take limit (pieces u size 0 places)) (slice_range u from at)
          (range_length u from at o.0 (omega (arith, room))) (omega (arith, below, count)) (omega arith)
          (piece_turn u size from places k below) i.made i.step e.step;
      no_slots = e.no_slots;
      history = e.history ∙ i.history;
    })

pub loop-at-preserved : goal.loop-at-preserved
loop-at-preserved g c =
    let state = g.S.Strings.state in
    let number = g.S.Strings.number in
    let u = text (state c.args.store.now) (number c.args.s) in
    let places = c.args.places.now in
    let size = c.args.size in
    let limit = c.args.limit in
    let from = c.loop-at.from in
    let k = c.loop-at.at-index in
    let i = c.loop-at.invariant in
    let e = c.in_ok-push_part.ensures in
    let at = get_or places k 0 in
    let below = c.loop-at-test.true in
    let count = c.requires.count in
    let o = order_turn (length u) size from places k below i.order in
    let room = o.1 in
    let done = known_texts (state c.loop-at.store) number c.loop-at.parts.items in
    let more = known_texts (state c.push_part.new.store) number c.push_part.new.parts.items in
    let left = pieces u size from (drop k places) in
    let rest = pieces u size (at + size) (drop (k + 1) places) in
    let whole = take limit (pieces u size 0 places) in
    let part = slice_range u from at in
    let added = e.added ∙ ap (λ t. done ++ slice_range t from at ∷ []) (text_still i.step.grows (number c.args.s) c.requires.known) in
    record {
      step = answered (at - from) (limit - k) (limit - (k + 1)) done left rest whole part more (range_length u from at o.0 (omega (arith, room))) added i.step e.uses.step;
      history = e.uses.history ∙ i.history;
      known = e.known;
      made = more_parts (limit - k) (limit - (k + 1)) done more left rest whole part (omega (arith, below, count)) (omega arith) (piece_turn u size from places k below) added i.made;
      order = o.2;
    }

pub returns-in_err-push_part-2-clause-uses : goal.returns-in_err-push_part-2-clause-uses
returns-in_err-push_part-2-clause-uses g c =
    let state = g.S.Strings.state in
    let number = g.S.Strings.number in
    let u = text (state c.args.store.now) (number c.args.s) in
    let places = c.args.places.now in
    let size = c.args.size in
    let limit = c.args.limit in
    let from = c.loop-at.from in
    let k = c.loop-at.at-index in
    let i = c.loop-at.invariant in
    let above = c.loop-at-test.false in
    let apart = c.if-places-limit.false in
    let end = c.loop-at.auto.at-index-end in
    let count = c.requires.count in
    let len = c.len-len.ensures.value in
    let first = last_order (length u) size from places k (omega (arith, above)) i.order in
    let p = err_from_is_err_and c.from_residual-in_err-push_part-2.result c.from_residual-in_err-push_part-2.ensures.1 in
    let e = c.in_err-push_part-2.ensures.uses in
    rw (p.1, p.2) (record {
      step = refused (c.len-len.result - from) (limit - k) (limit - (k + 1))
          (known_texts (state c.loop-at.store) number c.loop-at.parts.items) (pieces u size from (drop k places)) []
          (take limit (pieces u size 0 places)) (slice_range u from (length u))
          (ap (λ n. n - from) len ∙ range_length u from (length u) first (omega arith)) (omega (arith, above, apart, count, end)) (omega arith)
          (last_piece u size from places k (omega (arith, above)) first) i.made i.step e.step;
      no_slots = e.no_slots;
      history = e.history ∙ i.history;
    })

pub returns-clause-uses : goal.returns-clause-uses
returns-clause-uses g c =
    let state = g.S.Strings.state in
    let number = g.S.Strings.number in
    let u = text (state c.args.store.now) (number c.args.s) in
    let places = c.args.places.now in
    let size = c.args.size in
    let limit = c.args.limit in
    let from = c.loop-at.from in
    let k = c.loop-at.at-index in
    let i = c.loop-at.invariant in
    let above = c.loop-at-test.false in
    let apart = c.if-places-limit.false in
    let end = c.loop-at.auto.at-index-end in
    let count = c.requires.count in
    let len = c.len-len.ensures.value in
    let first = last_order (length u) size from places k (omega (arith, above)) i.order in
    let e = c.in_ok-push_part-2.ensures.uses in
    record {
      step = refused (c.len-len.result - from) (limit - k) (limit - (k + 1))
          (known_texts (state c.loop-at.store) number c.loop-at.parts.items) (pieces u size from (drop k places)) []
          (take limit (pieces u size 0 places)) (slice_range u from (length u))
          (ap (λ n. n - from) len ∙ range_length u from (length u) first (omega arith)) (omega (arith, above, apart, count, end)) (omega arith)
          (last_piece u size from places k (omega (arith, above)) first) i.made i.step e.step;
      no_slots = e.no_slots;
      history = e.history ∙ i.history;
    }

pub push_part-requires-clause-order : goal.push_part-requires-clause-order
push_part-requires-clause-order g c =
    let u = text (g.S.Strings.state c.args.store.now) (g.S.Strings.number c.args.s) in
    (order_turn (length u) c.args.size c.loop-at.from c.args.places.now c.loop-at.at-index c.loop-at-test.true c.loop-at.invariant.order).0

pub push_part-requires-clause-within : goal.push_part-requires-clause-within
push_part-requires-clause-within g c =
    let i = c.loop-at.invariant in
    let number = g.S.Strings.number in
    let u = text (g.S.Strings.state c.args.store.now) (number c.args.s) in
    let room = (order_turn (length u) c.args.size c.loop-at.from c.args.places.now c.loop-at.at-index c.loop-at-test.true i.order).1 in
    let same = ap (λ (x : List ℕ). length x) (text_still i.step.grows (number c.args.s) c.requires.known) in
    omega (arith, room, same)

pub push_part-requires-2-clause-order : goal.push_part-requires-2-clause-order
push_part-requires-2-clause-order g c =
    let i = c.loop-at.invariant in
    let u = text (g.S.Strings.state c.args.store.now) (g.S.Strings.number c.args.s) in
    let above = c.loop-at-test.false in
    let first = last_order (length u) c.args.size c.loop-at.from c.args.places.now c.loop-at.at-index (omega (arith, above)) i.order in
    let len = c.len-len.ensures.value in
    omega (arith, first, len)

pub returns-then-places-limit-clause-value : goal.returns-then-places-limit-clause-value
returns-then-places-limit-clause-value g c =
    let state = g.S.Strings.state in
    let number = g.S.Strings.number in
    let u = text (state c.args.store.now) (number c.args.s) in
    let places = c.args.places.now in
    let k = c.loop-at.at-index in
    let above = c.loop-at-test.false in
    let all = c.if-places-limit.true in
    let zero : c.args.limit - k ≡ 0 = omega (arith, above, all) in
    let left : List (List ℕ) = pieces u c.args.size c.loop-at.from (drop k places) in
    let none : take (c.args.limit - k) left ≡ [] = ap (λ (n : ℕ). take n left) zero in
    no_more (known_texts (state c.loop-at.store) number c.loop-at.parts.items) (take (c.args.limit - k) left) (take c.args.limit (pieces u c.args.size 0 places)) none c.loop-at.invariant.made

pub returns-then-places-limit-clause-uses : goal.returns-then-places-limit-clause-uses
returns-then-places-limit-clause-uses g c =
    let state = g.S.Strings.state in
    let number = g.S.Strings.number in
    let a = state c.args.store.now in
    let b = state c.loop-at.store in
    let u = text a (number c.args.s) in
    let places = c.args.places.now in
    let k = c.loop-at.at-index in
    let i = c.loop-at.invariant in
    let above = c.loop-at-test.false in
    let all = c.if-places-limit.true in
    let zero : c.args.limit - k ≡ 0 = omega (arith, above, all) in
    let whole : List (List ℕ) = take c.args.limit (pieces u c.args.size 0 places) in
    let left : List (List ℕ) = pieces u c.args.size c.loop-at.from (drop k places) in
    let none : take (c.args.limit - k) left ≡ [] = ap (λ (n : ℕ). take n left) zero in
    let is = no_more (known_texts b number c.loop-at.parts.items) (take (c.args.limit - k) left) whole none i.made in
    record {
      step = subst (λ (x : List (List ℕ)). StoreStep a b None (length x) (copies_words x)) is i.step;
      no_slots = tt;
      history = i.history;
    }

pub returns-clause-value : goal.returns-clause-value
returns-clause-value g c =
    let state = g.S.Strings.state in
    let number = g.S.Strings.number in
    let u = text (state c.args.store.now) (number c.args.s) in
    let places = c.args.places.now in
    let limit = c.args.limit in
    let from = c.loop-at.from in
    let k = c.loop-at.at-index in
    let i = c.loop-at.invariant in
    let above = c.loop-at-test.false in
    let apart = c.if-places-limit.false in
    let end = c.loop-at.auto.at-index-end in
    let count = c.requires.count in
    let len = c.len-len.ensures.value in
    let first = last_order (length u) c.args.size from places k (omega (arith, above)) i.order in
    let done = known_texts (state c.loop-at.store) number c.loop-at.parts.items in
    let more = known_texts (state c.push_part-2.new.store) number c.push_part-2.new.parts.items in
    let part = slice_range u from (length u) in
    let whole : List (List ℕ) = take limit (pieces u c.args.size 0 places) in
    let same = text_still i.step.grows (number c.args.s) c.requires.known in
    let added : more ≡ done ++ part ∷ [] = c.in_ok-push_part-2.ensures.added ∙ ap (λ t. done ++ slice_range t from c.len-len.result ∷ []) same ∙ ap (λ n. done ++ slice_range u from n ∷ []) len in
    let left = pieces u c.args.size from (drop k places) in
    let piece = last_piece u c.args.size from places k (omega (arith, above)) first in
    let made = more_parts (limit - k) (limit - (k + 1)) done more left [] whole part (omega (arith, above, apart, count, end)) (omega arith) piece added i.made in
    let none : take (limit - (k + 1)) [] ≡ [] = take_all (limit - (k + 1)) [] (omega arith) in
    no_more more (take (limit - (k + 1)) []) whole none made
