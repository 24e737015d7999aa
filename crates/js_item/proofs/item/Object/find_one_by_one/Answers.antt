use Rattle.std.proofs.Common.{◌∙◌, arith}
use Rattle.js_store.proofs.Laws.{step_trans}
use Rattle.js_item.proofs.Finding.{now_fine, place_fits, turn_found, turn_on}
use Rattle.js_item.proofs.item.Object.find_one_by_one.Goals as goal

pub same-requires-clause-left : goal.same-requires-clause-left
same-requires-clause-left g c =
    let state = g.S.Strings.state in
    (now_fine (state c.args.store.now) (state c.loop-i.store) g.S.Strings.number c.loop-i.invariant.step.grows c.args.self.now
    c.members-member-items.result.now c.members-member-items.ensures.fields c.requires.keys c.loop-i.i c.member-item.result
    c.loop-i-test.true c.member-item.is).known

pub same-requires-clause-left_interned : goal.same-requires-clause-left_interned
same-requires-clause-left_interned g c =
    let state = g.S.Strings.state in (
      _,
      (now_fine (state c.args.store.now) (state c.loop-i.store) g.S.Strings.number c.loop-i.invariant.step.grows c.args.self.now
          c.members-member-items.result.now c.members-member-items.ensures.fields c.requires.keys c.loop-i.i c.member-item.result
          c.loop-i-test.true c.member-item.is).interned,
    )

pub overflow_cast-result : goal.overflow_cast-result
overflow_cast-result g c =
    let state = g.S.Strings.state in
    omega (
      arith,
      place_fits (state c.args.store.now) (state c.loop-i.store) g.S.Strings.number c.loop-i.invariant.step.grows
          c.args.self.now c.members-member-items.result.now c.members-member-items.ensures.fields c.requires.keys c.loop-i.i c.member-item.result
          c.loop-i-test.true c.member-item.is c.requires.few,
    )

pub returns-then-same-clause-place : goal.returns-then-same-clause-place
returns-then-same-clause-place g c =
    let state = g.S.Strings.state in
    turn_found (state c.args.store.now) (state c.loop-i.store) g.S.Strings.number c.loop-i.invariant.step.grows c.args.self.now
    c.members-member-items.result.now c.members-member-items.ensures.fields c.requires.keys c.loop-i.i c.member-item.result c.loop-i-test.true c.member-item.is
    c.args.key c.same.result c.requires.key c.loop-i.invariant.none c.same.ensures.units c.if-same.true

pub loop-i-preserved : goal.loop-i-preserved
loop-i-preserved g c =
    let state = g.S.Strings.state in
    record {
      none = turn_on (state c.args.store.now) (state c.loop-i.store) g.S.Strings.number c.loop-i.invariant.step.grows c.args.self.now
          c.members-member-items.result.now c.members-member-items.ensures.fields c.requires.keys c.loop-i.i c.member-item.result
          c.loop-i-test.true c.member-item.is
          c.args.key c.same.result c.requires.key c.loop-i.invariant.none c.same.ensures.units c.if-same.false;
      step = step_trans c.loop-i.invariant.step c.same.ensures.uses.step;
      history = c.same.ensures.uses.history ∙ c.loop-i.invariant.history;
    }
