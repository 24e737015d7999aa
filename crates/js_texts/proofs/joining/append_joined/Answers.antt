use Rattle.std.proofs.Common.{arith, ◌∙◌}
use Rattle.js_store.proofs.Laws.{step_after}
use Rattle.js_texts.proofs.Lists.{on_ok_map, rest_is, settle_front}
use Rattle.js_texts.proofs.Separators.{joined_turn}
use Rattle.js_texts.proofs.joining.append_joined.Goals as goal

pub returns-in_ok-append-in-len1-up-clause-added : goal.returns-in_ok-append-in-len1-up-clause-added
returns-in_ok-append-in-len1-up-clause-added g c =
    let state = g.S.Strings.state in
    let e = c.in_ok-append-in-len1-up.ensures in
    let f = c.append_rest.ensures.added in
    on_ok_map _ _ c.append_rest.result
    (joined_turn g.S.Strings.number c.args.sep.now (state c.args.store.now) (state c.append.new.store) c.args.parts.now c.first-item.result
    c.args.text.now c.append.new.text c.append_rest.new.text c.in-len1-up.len_at_least c.first-item.is e.uses.step.grows c.requires e.added)
    (rw (rest_is c.args.parts.now) at f)

pub returns-in_ok-append-in-len1-up-clause-uses : goal.returns-in_ok-append-in-len1-up-clause-uses
returns-in_ok-append-in-len1-up-clause-uses g c =
    let state = g.S.Strings.state in
    let first = c.in_ok-append-in-len1-up.ensures.uses in
    let front = settle_front g.S.Strings.number (state c.args.store.now) (state c.append.new.store) c.args.parts.now 0 c.first-item.result
    c.in-len1-up.len_at_least c.first-item.is first.step.grows c.requires in
    let others = c.append_rest.ensures.uses in
    let step = others.step in
    record {
      step = step_after first.step (rw (rest_is c.args.parts.now) at step) (omega arith) (omega (arith, front));
      no_slots = others.no_slots;
      history = others.history ∙ first.history;
    }
