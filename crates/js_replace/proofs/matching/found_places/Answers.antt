use Rattle.std.proofs.Common.{arith, ◌∙◌, ap, ◌-◌, ◌+◌}
use Rattle.js_store.specs.State.{text}
use Rattle.js_store.proofs.Laws.{step_trans, text_still, known_has}
use Rattle.js_replace.specs.Matches.{first_matches}
use Rattle.js_replace.proofs.Finding.{found_all, found_more, found_room}
use Rattle.js_replace.proofs.matching.found_places.Goals as goal

pub returns-in-None-clause-value : goal.returns-in-None-clause-value
returns-in-None-clause-value g c =
    let state = g.S.Strings.state in
    let number = g.S.Strings.number in
    let a = state c.args.store.now in
    let b = state c.loop-turn.store in
    let u = text a (number c.args.s) in
    let w = text a (number c.args.w) in
    let i = c.loop-turn.invariant in
    let below = c.loop-turn-test.true in
    found_all (c.args.most - c.loop-turn._turn) u (text b (number c.args.s)) w (text b (number c.args.w)) c.loop-turn.places.items
    (first_matches c.args.most u w 0) c.loop-turn.from (omega (arith, below))
    (text_still i.step.grows (number c.args.s) c.requires.known) (text_still i.step.grows (number c.args.w) c.requires.needle_known)
    c.in-None.ensures.value i.places

pub overflow_add-from : goal.overflow_add-from
overflow_add-from g c =
    let state = g.S.Strings.state in
    let number = g.S.Strings.number in
    let a = state c.args.store.now in
    let b = state c.loop-turn.store in
    let u = text a (number c.args.s) in
    let w = text a (number c.args.w) in
    let i = c.loop-turn.invariant in
    let room = found_room u (text b (number c.args.s)) w (text b (number c.args.w)) c.loop-turn.from c.in-Some.at
    (text_still i.step.grows (number c.args.s) c.requires.known) (text_still i.step.grows (number c.args.w) c.requires.needle_known) c.in-Some.ensures.value in
    let long = (g.met.S.Strings.sound c.args.store.now).lengths (number c.args.s) u (known_has a (number c.args.s) c.requires.known) in
    let size = i.size in
    omega (arith, room, long, size)

pub loop-turn-preserved : goal.loop-turn-preserved
loop-turn-preserved g c =
    let state = g.S.Strings.state in
    let number = g.S.Strings.number in
    let a = state c.args.store.now in
    let b = state c.loop-turn.store in
    let u = text a (number c.args.s) in
    let w = text a (number c.args.w) in
    let i = c.loop-turn.invariant in
    let below = c.loop-turn-test.true in
    let at = c.in-Some.at in
    let same = text_still i.step.grows (number c.args.s) c.requires.known in
    let needle = text_still i.step.grows (number c.args.w) c.requires.needle_known in
    let room = found_room u (text b (number c.args.s)) w (text b (number c.args.w)) c.loop-turn.from at same needle c.in-Some.ensures.value in
    let size = i.size in
    record {
      step = step_trans i.step c.in-Some.ensures.uses.step;
      history = c.in-Some.ensures.uses.history ∙ i.history;
      places =
          found_more (c.args.most - c.loop-turn._turn) (c.args.most - (c.loop-turn._turn + 1)) u (text b (number c.args.s)) w (text b (number c.args.w))
          c.loop-turn.places.items c.push.new.self.items (first_matches c.args.most u w 0) c.loop-turn.from at (at + c.max-size.result)
          (omega (arith, below)) (omega (arith, below)) same needle c.in-Some.ensures.value (ap (λ n. at + n) size) c.in_ok-push-in-Some.ensures.items i.places;
      from = omega (arith, room, size);
      size = i.size;
    }
