use Rattle.std.proofs.Common.{◌≡◌, ℕ, ◌-◌, ◌+◌, ◌*◌, max, List, drop, map, Result}
use Rattle.js_store.specs.State.{State, Grows}
use Rattle.eval_tree.specs.declared.tree.Block.{size-Block}
use Rattle.eval_tree.specs.Tree.{stmts_tree, block_tree, arm_tree, arms}
use Rattle.eval_values.specs.declared.value.Stop.{Stop}
use Rattle.js_item.specs.Seen.{Val}
use Rattle.eval_scopes.specs.Bindings.{Bindings}
use Rattle.js_eval.specs.Script.{stmts_flow, block_flow, arms_flow, turn_flow, turns}
use Rattle.js_eval.specs.Seen.{ContextFine, context_bindings, scope_of}
use Rattle.js_eval.specs.Flows.{FollowsFlow}
use Rattle.js_eval.proofs.script.+stmt.Given as goal

-- whatever completes what is left, completes the whole
abbrev pub invariant-arms-loop-arm : goal.invariant-arms-loop-arm
invariant-arms-loop-arm g l =
    let state = g.S.Strings.state in
    let number = g.S.Strings.number in
    record {
      grows : Grows (state l.fn.store) (state l.store);
      fine : ContextFine (state l.store) number l.context;
      literals : l.context.literals ≡ l.fn.context.literals;
      completes : (c : State g.S.Strings.Frame) (z : List ℕ) (r : Result (Unit {0}) Stop) (bs : Bindings Val) →
          FollowsFlow (state l.store) c l.lines z r bs (arms_flow (arms (map arm_tree (drop l.arm-index l.list))) (λ q. block_flow (block_tree l.rest) q) (scope_of (state l.store) number l.context)) →
          FollowsFlow (state l.fn.store) c l.fn.lines z r bs (arms_flow (arms (map arm_tree l.list)) (λ q. block_flow (block_tree l.rest) q) (scope_of (state l.fn.store) number l.fn.context));
    }

abbrev pub invariant-statements-loop-s : goal.invariant-statements-loop-s
invariant-statements-loop-s g l =
    let state = g.S.Strings.state in
    let number = g.S.Strings.number in
    record {
      grows : Grows (state l.fn.store) (state l.store);
      fine : ContextFine (state l.store) number l.context;
      literals : l.context.literals ≡ l.fn.context.literals;
      completes : (c : State g.S.Strings.Frame) (z : List ℕ) (r : Result (Unit {0}) Stop) (bs : Bindings Val) →
          FollowsFlow (state l.store) c l.lines z r bs (stmts_flow (stmts_tree (drop l.s-index l.body)) (scope_of (state l.store) number l.context)) →
          FollowsFlow (state l.fn.store) c l.fn.lines z r bs (stmts_flow (stmts_tree l.body) (scope_of (state l.fn.store) number l.fn.context));
    }

abbrev pub invariant-turns-loop-i : goal.invariant-turns-loop-i
invariant-turns-loop-i g l =
    let state = g.S.Strings.state in
    let number = g.S.Strings.number in
    let first = scope_of (state l.fn.store) number l.fn.context in
    record {
      grows : Grows (state l.fn.store) (state l.store);
      fine : ContextFine (state l.store) number l.context;
      literals : l.context.literals ≡ l.fn.context.literals;
      completes : (c : State g.S.Strings.Frame) (z : List ℕ) (r : Result (Unit {0}) Stop) (bs : Bindings Val) →
          FollowsFlow (state l.store) c l.lines z r bs (turns (turn_flow l.name (block_tree l.body) first) l.i (l.bound - l.i) (context_bindings (state l.store) number l.context)) →
          FollowsFlow (state l.fn.store) c l.fn.lines z r bs (turns (turn_flow l.name (block_tree l.body) first) 0 l.bound (context_bindings (state l.fn.store) number l.fn.context));
    }

-- a block, its statements, one of them, and its blocks; the arms of an `if` are as deep as the deepest of them and of the rest
abbrev pub decreases-statement : goal.decreases-statement
decreases-statement g l = 8 * goal.size-statement g l

abbrev pub decreases-statements : goal.decreases-statements
decreases-statements g l = 8 * goal.size-statements g l + 1

abbrev pub decreases-block : goal.decreases-block
decreases-block g l = 8 * goal.size-block g l + 1

abbrev pub decreases-turn : goal.decreases-turn
decreases-turn g l = 8 * goal.size-turn g l + 2

abbrev pub decreases-turns : goal.decreases-turns
decreases-turns g l = 8 * goal.size-turns g l + 3

abbrev pub decreases-arms : goal.decreases-arms
decreases-arms g l = 8 * max (goal.size-arms g l) (size-Block l.rest.now) + 2
