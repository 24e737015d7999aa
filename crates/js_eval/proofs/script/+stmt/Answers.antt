use Rattle.std.proofs.Common.{Ok, Err, arith, sym, subst, ◌≡◌, ◌∙◌, ◌-◌, ◌+◌, suc, ℕ}
use Rattle.std.proofs.Math.ListN.{drop_of_length-le}
use Rattle.std.proofs.lemmas.Result.{err_from_is_err_and}
use Rattle.js_store.proofs.Laws.{grows_trans}
use Rattle.eval_tree.specs.Tree.{block_tree}
use Rattle.eval_tree.proofs.Trees.{tree_of_block, tree_of_let, tree_of_const, tree_of_assign, tree_of_append, tree_of_print, tree_of_if, tree_of_for}
use Rattle.js_item.specs.Seen.{seen}
use Rattle.js_eval.specs.Script.{Flow, block_flow, turn_flow, turns}
use Rattle.js_eval.specs.Seen.{context_bindings, scope_of}
use Rattle.js_eval.specs.Flows.{FollowsFlow}
use Rattle.js_eval.proofs.Assigned.{memory_went}
use Rattle.js_eval.proofs.Flows.{leaves_went, turns_none, turns_turn, turns_halt}
use Rattle.js_eval.proofs.Statements.{block_went, turn_went, turn_after, body_turn, body_halt, arms_turn, arms_take, arms_halt}
use Rattle.js_eval.proofs.script.+stmt.Goals as goal

-- a block
pub block-returns-in_err-enter-clause-went : goal.block-returns-in_err-enter-clause-went
block-returns-in_err-enter-clause-went g t c =
    let number = g.S.Strings.number in
    let a = g.S.Strings.state c.args.store.now in
    let p = err_from_is_err_and c.from_residual.result c.from_residual.ensures.1 in
    rw (p.1, p.2, c.in_err-enter.ensures.fault) (memory_went a number c.args.lines.now (context_bindings a number c.enter.new.context)
    (block_flow (block_tree c.args.b.now) (scope_of a number c.args.context.now)))

pub block-returns-clause-went : goal.block-returns-clause-went
block-returns-clause-went g t c =
    let state = g.S.Strings.state in
    let number = g.S.Strings.number in
    let a = state c.args.store.now in
    let r = c.statements-result in
    let b = state r.new.store in
    let e = c.in_ok-enter.ensures in
    let d = c.deref.ensures.value in
    let w = r.ensures.went in
    block_went number a b c.args.lines.now r.new.lines c.args.b.now c.args.context.now c.enter.new.context r.result
    (context_bindings b number r.new.context) (context_bindings b number c.leave.new.context) e.literals e.entered (rw d at w) c.leave.ensures.left

-- a turn
pub turn-returns-in_err-enter_turn-clause-went : goal.turn-returns-in_err-enter_turn-clause-went
turn-returns-in_err-enter_turn-clause-went g t c =
    let number = g.S.Strings.number in
    let a = g.S.Strings.state c.args.store.now in
    let p = err_from_is_err_and c.from_residual.result c.from_residual.ensures.1 in
    rw (p.1, p.2, c.in_err-enter_turn.ensures.fault) (memory_went a number c.args.lines.now
    (context_bindings a number c.enter_turn.new.context) (turn_flow c.args.name.now (block_tree c.args.body.now)
    (scope_of a number c.args.context.now) c.args.i (context_bindings a number c.args.context.now)))

pub turn-returns-clause-went : goal.turn-returns-clause-went
turn-returns-clause-went g t c =
    let state = g.S.Strings.state in
    let number = g.S.Strings.number in
    let a = state c.args.store.now in
    let r = c.block-result in
    let b = state r.new.store in
    let e = c.in_ok-enter_turn.ensures in
    turn_went number a b c.args.lines.now r.new.lines c.args.name.now c.args.i (block_tree c.args.body.now) c.args.context.now
    c.enter_turn.new.context (seen a number c.turn_number-count.result) r.result (context_bindings b number r.new.context)
    (context_bindings b number c.leave.new.context) e.literals c.turn_number-count.ensures.seen e.entered r.ensures.went c.leave.ensures.left

-- the kinds of statement
pub statement-returns-in-Block-clause-went : goal.statement-returns-in-Block-clause-went
statement-returns-in-Block-clause-went g t c = rw (c.in-Block.is, tree_of_block c.in-Block.inner) c.block.ensures.went

pub statement-returns-in-Let-clause-went : goal.statement-returns-in-Let-clause-went
statement-returns-in-Let-clause-went g t c = rw (c.in-Let.is, tree_of_let c.in-Let.at c.in-Let.name c.in-Let.init) (c.evaluate_let.ensures.went c.in-Let.at c.args.lines.now)

pub statement-returns-in-Const-clause-went : goal.statement-returns-in-Const-clause-went
statement-returns-in-Const-clause-went g t c = rw (c.in-Const.is, tree_of_const c.in-Const.at c.in-Const.name c.in-Const.init) (c.evaluate_const.ensures.went c.in-Const.at c.args.lines.now)

pub statement-returns-in-Assign-clause-went : goal.statement-returns-in-Assign-clause-went
statement-returns-in-Assign-clause-went g t c = rw (c.in-Assign.is, tree_of_assign c.in-Assign.at c.in-Assign.name c.in-Assign.value) (c.evaluate_assign.ensures.went c.in-Assign.at c.args.lines.now)

pub statement-returns-in-Append-clause-went : goal.statement-returns-in-Append-clause-went
statement-returns-in-Append-clause-went g t c = rw (
  c.in-Append.is,
  tree_of_append c.in-Append.at c.in-Append.name_at c.in-Append.name
      c.in-Append.value,
) (c.evaluate_append.ensures.went c.in-Append.name_at c.args.lines.now)

pub statement-returns-in-Print-clause-went : goal.statement-returns-in-Print-clause-went
statement-returns-in-Print-clause-went g t c =
    let d = c.deref.ensures.value in
    let w = c.print.ensures.went in
    rw (c.in-Print.is, tree_of_print c.in-Print.args) (rw d at w)

pub statement-returns-in-If-clause-went : goal.statement-returns-in-If-clause-went
statement-returns-in-If-clause-went g t c =
    let d = c.deref-in-If.ensures.value in
    let w = c.arms.ensures.went in
    rw (c.in-If.is, tree_of_if c.in-If.list c.in-If.rest) (rw d at w)

pub statement-returns-in-For-clause-went : goal.statement-returns-in-For-clause-went
statement-returns-in-For-clause-went g t c = rw (c.in-For.is, tree_of_for c.in-For.name c.in-For.bound c.in-For.body) c.turns.ensures.went

-- statements in order
pub statements-returns-in_err-statement-clause-went : goal.statements-returns-in_err-statement-clause-went
statements-returns-in_err-statement-clause-went g t c =
    let state = g.S.Strings.state in
    let number = g.S.Strings.number in
    let p = err_from_is_err_and c.from_residual.result c.from_residual.ensures.1 in
    let l = c.loop-s in
    let n = c.statement.new in
    let bs = context_bindings (state n.store) number n.context in
    rw (p.1, p.2) (l.invariant.completes (state n.store) n.lines (Err c.in_err-statement.field-0.0) bs
    (body_halt number (state l.store) (state n.store) l.lines n.lines c.args.body.now l.s-index c.s-item.result l.context c.loop-s-test.true
    c.s-item.is c.in_err-statement.field-0.0 bs c.in_err-statement.ensures.went))

pub statements-loop-s-preserved : goal.statements-loop-s-preserved
statements-loop-s-preserved g t c =
    let state = g.S.Strings.state in
    let number = g.S.Strings.number in
    let l = c.loop-s in
    let n = c.statement.new in
    let i = l.invariant in
    let e = c.in_ok-statement.ensures in
    record {
      grows = grows_trans i.grows e.grows;
      fine = e.context;
      literals = e.literals ∙ i.literals;
      completes = λ d z r bs w. i.completes d z r bs
          (body_turn number (state l.store) (state n.store) l.lines n.lines c.args.body.now l.s-index c.s-item.result l.context
          c.loop-s-test.true c.s-item.is d z n.context r bs e.grows i.fine e.literals e.went w);
    }

pub statements-returns-clause-went : goal.statements-returns-clause-went
statements-returns-clause-went g t c =
    let state = g.S.Strings.state in
    let number = g.S.Strings.number in
    let l = c.loop-s in
    let past = drop_of_length-le c.args.body.now {i = l.s-index} c.loop-s-test.false in
    l.invariant.completes (state l.store) l.lines (Ok tt) (context_bindings (state l.store) number l.context)
    (rw past (leaves_went (state l.store) l.lines (context_bindings (state l.store) number l.context)))

-- the turns of a `for`
pub turns-returns-in_err-turn-clause-went : goal.turns-returns-in_err-turn-clause-went
turns-returns-in_err-turn-clause-went g t c =
    let state = g.S.Strings.state in
    let number = g.S.Strings.number in
    let p = err_from_is_err_and c.from_residual.result c.from_residual.ensures.1 in
    let l = c.loop-i in
    let n = c.turn.new in
    let i = l.invariant in
    let a = state c.args.store.now in
    let b = state l.store in
    let bs = context_bindings (state n.store) number n.context in
    let first = scope_of a number c.args.context.now in
    let left : c.args.bound - l.i ≡ suc (c.args.bound - (l.i + 1)) = omega arith in
    rw (p.1, p.2) (i.completes (state n.store) n.lines (Err c.in_err-turn.field-0.0) bs
    (turns_halt b (state n.store) l.lines n.lines (turn_flow c.args.name.now (block_tree c.args.body.now) first) l.i
    (c.args.bound - (l.i + 1)) (c.args.bound - l.i) c.in_err-turn.field-0.0 (context_bindings b number l.context) bs left
    (turn_after number a b (state n.store) l.lines n.lines c.args.name.now l.i (block_tree c.args.body.now) c.args.context.now l.context
    (Err c.in_err-turn.field-0.0) bs i.grows c.requires i.literals c.in_err-turn.ensures.went)))

pub turns-loop-i-preserved : goal.turns-loop-i-preserved
turns-loop-i-preserved g t c =
    let state = g.S.Strings.state in
    let number = g.S.Strings.number in
    let l = c.loop-i in
    let n = c.turn.new in
    let i = l.invariant in
    let e = c.in_ok-turn.ensures in
    let a = state c.args.store.now in
    let b = state l.store in
    let bs = context_bindings (state n.store) number n.context in
    let first = scope_of a number c.args.context.now in
    let left : c.args.bound - l.i ≡ suc (c.args.bound - (l.i + 1)) = omega arith in
    record {
      grows = grows_trans i.grows e.grows;
      fine = e.context;
      literals = e.literals ∙ i.literals;
      completes = λ d z r cs w. i.completes d z r cs
          (turns_turn b (state n.store) d l.lines n.lines z (turn_flow c.args.name.now (block_tree c.args.body.now) first) l.i
          (c.args.bound - (l.i + 1)) (c.args.bound - l.i) r (context_bindings b number l.context) bs cs left
          (turn_after number a b (state n.store) l.lines n.lines c.args.name.now l.i (block_tree c.args.body.now) c.args.context.now l.context (Ok tt) bs i.grows c.requires i.literals e.went) w);
    }

pub turns-returns-clause-went : goal.turns-returns-clause-went
turns-returns-clause-went g t c =
    let state = g.S.Strings.state in
    let number = g.S.Strings.number in
    let l = c.loop-i in
    let b = state l.store in
    let bs = context_bindings b number l.context in
    let go = turn_flow c.args.name.now (block_tree c.args.body.now) (scope_of (state c.args.store.now) number c.args.context.now) in
    let none : c.args.bound - l.i ≡ 0 = omega arith in
    l.invariant.completes b l.lines (Ok tt) bs
    (subst (λ (q : ℕ). FollowsFlow b b l.lines l.lines (Ok tt) bs (turns go l.i q bs)) (sym none)
    (subst (λ (q : Flow). FollowsFlow b b l.lines l.lines (Ok tt) bs q) (sym (turns_none go l.i bs))
    (leaves_went b l.lines bs)))

-- the arms of an `if`
pub arms-returns-in_err-held-clause-went : goal.arms-returns-in_err-held-clause-went
arms-returns-in_err-held-clause-went g t c =
    let state = g.S.Strings.state in
    let number = g.S.Strings.number in
    let p = err_from_is_err_and c.from_residual.result c.from_residual.ensures.1 in
    let l = c.loop-arm in
    let e = c.in_err-held.ensures in
    let b = state c.holds.new.store in
    rw (p.1, p.2) (l.invariant.completes b l.lines (Err c.in_err-held.field-0.0) (context_bindings b number l.context)
    (arms_halt number (state l.store) b l.lines c.args.list.now l.arm-index c.arm-item.result
    (λ q. block_flow (block_tree c.args.rest.now) q) l.context c.loop-arm-test.true c.arm-item.is c.in_err-held.field-0.0 e.grows l.invariant.fine e.did))

pub arms-returns-then-held-clause-went : goal.arms-returns-then-held-clause-went
arms-returns-then-held-clause-went g t c =
    let state = g.S.Strings.state in
    let number = g.S.Strings.number in
    let l = c.loop-arm in
    let e = c.in_ok-held.ensures in
    let n = c.block.new in
    let bs = context_bindings (state n.store) number n.context in
    l.invariant.completes (state n.store) n.lines c.block.result bs
    (arms_take number (state l.store) (state c.holds.new.store) l.lines c.args.list.now l.arm-index c.arm-item.result
    (λ q. block_flow (block_tree c.args.rest.now) q) l.context c.loop-arm-test.true c.arm-item.is (state n.store) n.lines c.block.result bs
    c.in_ok-held.held c.if-held.true e.grows l.invariant.fine e.did c.block.ensures.went)

pub arms-returns-then-held-clause-grows : goal.arms-returns-then-held-clause-grows
arms-returns-then-held-clause-grows g t c = grows_trans (grows_trans c.loop-arm.invariant.grows c.in_ok-held.ensures.grows) c.block.ensures.grows

pub arms-loop-arm-preserved : goal.arms-loop-arm-preserved
arms-loop-arm-preserved g t c =
    let state = g.S.Strings.state in
    let number = g.S.Strings.number in
    let l = c.loop-arm in
    let i = l.invariant in
    let e = c.in_ok-held.ensures in
    record {
      grows = grows_trans i.grows e.grows;
      fine = e.context;
      literals = i.literals;
      completes = λ d z r bs w. i.completes d z r bs
          (arms_turn number (state l.store) (state c.holds.new.store) l.lines c.args.list.now l.arm-index c.arm-item.result
          (λ q. block_flow (block_tree c.args.rest.now) q) l.context c.loop-arm-test.true c.arm-item.is d z r bs c.in_ok-held.held
          c.if-held.false e.grows i.fine e.did w);
    }

pub arms-returns-clause-went : goal.arms-returns-clause-went
arms-returns-clause-went g t c =
    let state = g.S.Strings.state in
    let number = g.S.Strings.number in
    let l = c.loop-arm in
    let past = drop_of_length-le c.args.list.now {i = l.arm-index} c.loop-arm-test.false in
    let n = c.block-2.new in
    l.invariant.completes (state n.store) n.lines c.block-2.result (context_bindings (state n.store) number n.context) (rw past c.block-2.ensures.went)
