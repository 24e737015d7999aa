use Rattle.std.proofs.Common.{◌∙◌, ap}
use Rattle.std.specs.Prelude.{is_some}
use Rattle.js_store.proofs.Laws.{step_trans}
use Rattle.js_item.proofs.Finding.{now_fine, units_found, units_on}
use Rattle.js_item.proofs.item.Object.has.Goals as goal

pub is_key-requires : goal.is_key-requires
is_key-requires g c =
    let state = g.S.Strings.state in
    now_fine (state c.args.store.now) (state c.loop-member.store) g.S.Strings.number c.loop-member.invariant.step.grows c.args.self.now
    c.members-member-items.result.now c.members-member-items.ensures.fields c.requires c.loop-member.member-index c.member-item.result
    c.loop-member-test.true c.member-item.is

pub returns-then-is_key-clause-value : goal.returns-then-is_key-clause-value
returns-then-is_key-clause-value g c =
    let state = g.S.Strings.state in
    ap is_some (units_found (state c.args.store.now) (state c.loop-member.store) g.S.Strings.number c.loop-member.invariant.step.grows
    c.args.self.now c.members-member-items.result.now c.members-member-items.ensures.fields c.requires c.loop-member.member-index
    c.member-item.result c.loop-member-test.true c.member-item.is
    c.args.units.now c.is_key.result c.loop-member.invariant.none c.is_key.ensures.value c.if-is_key.true)

pub loop-member-preserved : goal.loop-member-preserved
loop-member-preserved g c =
    let state = g.S.Strings.state in
    record {
      none = units_on (state c.args.store.now) (state c.loop-member.store) g.S.Strings.number c.loop-member.invariant.step.grows
          c.args.self.now c.members-member-items.result.now c.members-member-items.ensures.fields c.requires c.loop-member.member-index
          c.member-item.result c.loop-member-test.true c.member-item.is
          c.args.units.now c.is_key.result c.loop-member.invariant.none c.is_key.ensures.value c.if-is_key.false;
      step = step_trans c.loop-member.invariant.step c.is_key.ensures.uses.step;
      history = c.is_key.ensures.uses.history ∙ c.loop-member.invariant.history;
    }
