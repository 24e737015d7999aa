use Rattle.std.proofs.Common.{arith, ◌∙◌}
use Rattle.js_units.specs.Text.{utf8}
use Rattle.js_store.proofs.Laws.{step_after}
use Rattle.js_texts.proofs.Lists.{on_ok_map, rest_is, settle_front}
use Rattle.js_texts.proofs.Delimited.{joined_turn}
use Rattle.js_json.proofs.printing.append_line.Goals as goal

pub returns-in_ok-append_string-in-len1-up-clause-added : goal.returns-in_ok-append_string-in-len1-up-clause-added
returns-in_ok-append_string-in-len1-up-clause-added g c =
    let state = g.S.Strings.state in
    let e = c.in_ok-append_string-in-len1-up.ensures in
    let f = c.append_rest.ensures.added in
    on_ok_map _ _ c.append_rest.result
    (joined_turn utf8 32 10 g.S.Strings.number (state c.args.store.now) (state c.append_string.new.store) c.args.parts.now
    c.first-item.result c.args.line.now.items c.append_string.new.line.items c.append_rest.new.line.items c.in-len1-up.len_at_least
    c.first-item.is e.uses.step.grows c.requires e.added)
    (rw (rest_is c.args.parts.now) at f)

pub returns-in_ok-append_string-in-len1-up-clause-uses : goal.returns-in_ok-append_string-in-len1-up-clause-uses
returns-in_ok-append_string-in-len1-up-clause-uses g c =
    let state = g.S.Strings.state in
    let first = c.in_ok-append_string-in-len1-up.ensures.uses in
    let front = settle_front g.S.Strings.number (state c.args.store.now) (state c.append_string.new.store) c.args.parts.now 0
    c.first-item.result c.in-len1-up.len_at_least c.first-item.is first.step.grows c.requires in
    let others = c.append_rest.ensures.uses in
    let step = others.step in
    record {
      step = step_after first.step (rw (rest_is c.args.parts.now) at step) (omega arith) (omega (arith, front));
      no_slots = others.no_slots;
      history = others.history ∙ first.history;
    }
