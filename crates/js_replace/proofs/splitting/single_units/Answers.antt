use Rattle.std.proofs.Common.{arith, ◌∙◌, ap, ◌-◌, ◌+◌, ◌++◌, ◌∷◌, [], take, drop}
use Rattle.std.specs.Prelude.{slice_range}
use Rattle.std.proofs.lemmas.Result.{err_from_is_err_and}
use Rattle.js_store.specs.State.{text}
use Rattle.js_store.proofs.Laws.{text_still}
use Rattle.js_texts.specs.Texts.{known_texts}
use Rattle.js_replace.specs.Fronts.{singles}
use Rattle.js_replace.proofs.Cutting.{refused, answered, more_parts, no_more, range_length, single_turn, singles_end}
use Rattle.js_replace.proofs.splitting.single_units.Goals as goal

pub returns-in_err-push_part-clause-uses : goal.returns-in_err-push_part-clause-uses
returns-in_err-push_part-clause-uses g c =
    let state = g.S.Strings.state in
    let number = g.S.Strings.number in
    let a = state c.args.store.now in
    let b = state c.loop-i.store in
    let u = text a (number c.args.s) in
    let k = c.loop-i.i in
    let limit = c.args.limit in
    let i = c.loop-i.invariant in
    let below = c.loop-i-test.true in
    let size = c.len.ensures.value in
    let most = c.min-most.ensures in
    let p = err_from_is_err_and c.from_residual.result c.from_residual.ensures.1 in
    let e = c.in_err-push_part.ensures.uses in
    rw (p.1, p.2) (record {
      step = refused (k + 1 - k) (limit - k) (limit - (k + 1)) (known_texts b number c.loop-i.parts.items) (singles (drop k u))
          (singles (drop (k + 1) u)) (take limit (singles u)) (slice_range u k (k + 1))
          (range_length u k (k + 1) (omega arith) (omega (arith, below, size, most))) (omega (arith, below, most)) (omega arith)
          (single_turn u k (omega (arith, below, size, most))) i.made i.step e.step;
      no_slots = e.no_slots;
      history = e.history ∙ i.history;
    })

pub loop-i-preserved : goal.loop-i-preserved
loop-i-preserved g c =
    let state = g.S.Strings.state in
    let number = g.S.Strings.number in
    let a = state c.args.store.now in
    let b = state c.loop-i.store in
    let u = text a (number c.args.s) in
    let k = c.loop-i.i in
    let limit = c.args.limit in
    let i = c.loop-i.invariant in
    let e = c.in_ok-push_part.ensures in
    let below = c.loop-i-test.true in
    let size = c.len.ensures.value in
    let most = c.min-most.ensures in
    let done = known_texts b number c.loop-i.parts.items in
    let more = known_texts (state c.push_part.new.store) number c.push_part.new.parts.items in
    let part = slice_range u k (k + 1) in
    let same = text_still i.step.grows (number c.args.s) c.requires.known in
    let added = e.added ∙ ap (λ t. done ++ slice_range t k (k + 1) ∷ []) same in
    record {
      step = answered (k + 1 - k) (limit - k) (limit - (k + 1)) done (singles (drop k u)) (singles (drop (k + 1) u)) (take limit (singles u)) part more
          (range_length u k (k + 1) (omega arith) (omega (arith, below, size, most))) added i.step e.uses.step;
      history = e.uses.history ∙ i.history;
      known = e.known;
      made = more_parts (limit - k) (limit - (k + 1)) done more (singles (drop k u)) (singles (drop (k + 1) u)) (take limit (singles u)) part
          (omega (arith, below, most)) (omega arith) (single_turn u k (omega (arith, below, size, most))) added i.made;
    }

pub returns-clause-value : goal.returns-clause-value
returns-clause-value g c =
    let state = g.S.Strings.state in
    let number = g.S.Strings.number in
    let u = text (state c.args.store.now) (number c.args.s) in
    let k = c.loop-i.i in
    let above = c.loop-i-test.false in
    let size = c.len.ensures.value in
    let most = c.min-most.ensures in
    no_more (known_texts (state c.loop-i.store) number c.loop-i.parts.items) (take (c.args.limit - k) (singles (drop k u))) (take c.args.limit (singles u))
    (singles_end u c.args.limit k (omega (arith, above, size, most))) c.loop-i.invariant.made
