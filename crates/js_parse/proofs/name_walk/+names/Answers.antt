use Rattle.std.proofs.Common.{◌∙◌, ap, not, true, false, cond, ℕ, List}
use Rattle.eval_tree.specs.Tree.{block_tree}
use Rattle.js_parse.specs.NameFaults.{marked}
use Rattle.js_parse.specs.NameWalk.{has}
use Rattle.js_parse.proofs.Walks.{walks_in_if, walks_turns, arm_turn, statement_turn}
use Rattle.js_parse.proofs.name_walk.+names.Goals as goal

pub among-loop-s-preserved : goal.among-loop-s-preserved
among-loop-s-preserved t c = record {
  finds = statement_turn c.args.body.now c.loop-s.s-index c.s-item.result (has c.loop-s.loops) (has c.statement.new.loops)
      (has c.loop-s.before) (has c.declaration.new.before) c.loop-s.first c.in_ok-first.first c.in_ok-first-2.first c.loop-s-test.true
      c.s-item.is c.in_ok-first.ensures.before c.in_ok-first.ensures.found c.in_ok-first-2.ensures
      ∙ c.loop-s.invariant.finds;
  kept = c.in_ok-first-2.ensures.kept ∙ c.loop-s.invariant.kept;
}

pub arms-loop-arm-preserved : goal.arms-loop-arm-preserved
arms-loop-arm-preserved t c = record {
  finds = arm_turn c.args.list.now c.loop-arm.arm-index c.arm-item.result (has c.loop-arm.loops) (has c.block.new.loops) c.loop-arm.first
      c.in_ok-first.first c.loop-arm-test.true c.arm-item.is c.in_ok-first.ensures
      ∙ c.loop-arm.invariant.finds;
  kept = c.in_ok-first.ensures.kept ∙ c.loop-arm.invariant.kept;
}

pub statement-returns-in_ok-first-in-If : goal.statement-returns-in_ok-first-in-If
statement-returns-in_ok-first-in-If t c =
    walks_in_if (has c.args.loops.now) (has c.arms.new.loops) (has c.block-in-If.new.loops) c.args.s.now c.in-If.list c.in-If.rest
    c.deref.result.now c.args.first c.in_ok-first-in-If.first c.block-in-If.result c.in-If.is c.deref.ensures.value
    c.in_ok-first-in-If.ensures c.block-in-If.ensures

pub turns-returns : goal.turns-returns
turns-returns t c =
    let old = has c.args.loops.now in
    let inside = has c.block.new.loops in
    walks_turns old (has c.insert.new.self) inside (has c.leave.new.self) c.args.name.now c.in_ok-new.new c.args.first c.in_ok-first.first (block_tree c.args.body.now)
    (c.in_ok-new.ensures.new ∙ ap (λ (l : List ℕ). not (old l)) c.as_bytes.ensures)
    (c.in_ok-new.ensures.names ∙ ap (λ (l : List ℕ). marked true l old) c.as_bytes.ensures)
    c.in_ok-first.ensures
    (c.leave.ensures ∙ ap (λ (l : List ℕ). cond c.in_ok-new.new (marked false l inside) inside) c.as_bytes-2.ensures)
