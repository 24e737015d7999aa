use Rattle.std.proofs.Common.{◌+◌, ◌*◌, max, drop, unwrap_or, Result, Vec, Global}
use Rattle.js_store.specs.State.{State, Grows}
use Rattle.eval_tree.specs.declared.tree.Expr.{size-Expr}
use Rattle.eval_tree.specs.Tree.{expr_tree, links_tree, steps_tree, exprs_tree, entries_tree}
use Rattle.js_item.specs.declared.item.Item.{Item}
use Rattle.eval_values.specs.declared.value.Stop.{Stop}
use Rattle.js_eval.specs.Expression.{expr_out, links_out, steps_out, exprs_out}
use Rattle.js_item.specs.Contents.{Fields, no_fields}
use Rattle.js_item.specs.Seen.{seen, says, fields_mapped}
use Rattle.js_item.specs.Fine.{strings_of, IsFine, FineFields}
use Rattle.eval_values.specs.Seen.{all_seen, AllFine}
use Rattle.js_eval.specs.Paid.{entries_paid, Makes}
use Rattle.js_eval.specs.Seen.{ContextFine, scope_of}
use Rattle.eval_values.specs.Does.{GivesValue, GivesValues}
use Rattle.eval_values.proofs.Each.{each_behind}
use Rattle.js_eval.proofs.expr.+expr.Given as goal

-- whatever completes what is left, completes the whole
abbrev pub invariant-links-loop-link : goal.invariant-links-loop-link
invariant-links-loop-link g l =
    let state = g.S.Strings.state in
    let number = g.S.Strings.number in
    record {
      grows : Grows (state l.fn.store) (state l.store);
      context : ContextFine (state l.store) number l.context;
      fine : IsFine (state l.store) number l.value;
      completes : (c : State g.S.Strings.Frame) (r : Result (Item g.row.S-Ref.Denot) Stop) →
          GivesValue number (state l.store) c r (links_out (links_tree (drop l.link-index l.rest)) (scope_of (state l.fn.store) number l.context) (seen (state l.store) number l.value)) →
          GivesValue number (state l.fn.store) c r (links_out (links_tree l.rest) (scope_of (state l.fn.store) number l.context) (seen (state l.fn.store) number l.fn.first));
    }

abbrev pub invariant-many_steps-loop-step : goal.invariant-many_steps-loop-step
invariant-many_steps-loop-step g l =
    let state = g.S.Strings.state in
    let number = g.S.Strings.number in
    record {
      grows : Grows (state l.fn.store) (state l.store);
      context : ContextFine (state l.store) number l.context;
      fine : IsFine (state l.store) number (unwrap_or l.value l.place);
      completes : (c : State g.S.Strings.Frame) (r : Result (Item g.row.S-Ref.Denot) Stop) →
          GivesValue number (state l.store) c r (steps_out (steps_tree (drop l.step-index l.rest))
          (scope_of (state l.fn.store) number l.context) (seen (state l.store) number (unwrap_or l.value l.place))) →
          GivesValue number (state l.fn.store) c r (steps_out (steps_tree l.rest) (scope_of (state l.fn.store) number l.context) (seen (state l.fn.store) number l.first));
    }

abbrev pub invariant-exprs-loop-e : goal.invariant-exprs-loop-e
invariant-exprs-loop-e g l =
    let state = g.S.Strings.state in
    let number = g.S.Strings.number in
    let meant = scope_of (state l.fn.store) number l.context in
    record {
      grows : Grows (state l.fn.store) (state l.store);
      context : ContextFine (state l.store) number l.context;
      fine : AllFine (state l.store) number l.values.items;
      completes : (c : State g.S.Strings.Frame) (r : Result (Vec (Item g.row.S-Ref.Denot) Global) Stop) →
          GivesValues number (state l.store) c r (each_behind (λ e. expr_out (expr_tree e) meant) (drop l.e-index l.list) (all_seen (state l.store) number l.values.items)) →
          GivesValues number (state l.fn.store) c r (exprs_out (exprs_tree l.list) meant);
    }

abbrev pub invariant-members_of-loop-member : goal.invariant-members_of-loop-member
invariant-members_of-loop-member g l =
    let state = g.S.Strings.state in
    let number = g.S.Strings.number in
    record {
      grows : Grows (state l.fn.store) (state l.store);
      context : ContextFine (state l.store) number l.context;
      fine : FineFields (strings_of (state l.store)) number l.object;
      completes : (c : State g.S.Strings.Frame) (r : Result (Fields g.row.S-Ref.Denot) Stop) →
          Makes number (state l.store) c r (entries_paid (entries_tree (drop l.member-index l.members))
          (scope_of (state l.fn.store) number l.context) (fields_mapped (says (state l.store) number) l.object)) →
          Makes number (state l.fn.store) c r (entries_paid (entries_tree l.members) (scope_of (state l.fn.store) number l.context) no_fields);
    }

-- each form in one of its own functions, then its parts; a form of several parts is as deep as the deepest of them
abbrev pub decreases-expr : goal.decreases-expr
decreases-expr g l = 8 * goal.size-expr g l

abbrev pub decreases-unary : goal.decreases-unary
decreases-unary g l = 8 * goal.size-unary g l + 1

abbrev pub decreases-conditional : goal.decreases-conditional
decreases-conditional g l = 8 * max (size-Expr l.test.now) (max (size-Expr l.yes.now) (size-Expr l.no.now)) + 2

abbrev pub decreases-test_value : goal.decreases-test_value
decreases-test_value g l = 8 * size-Expr l.test.now + 1

abbrev pub decreases-exprs : goal.decreases-exprs
decreases-exprs g l = 8 * goal.size-exprs g l + 1

abbrev pub decreases-builtin : goal.decreases-builtin
decreases-builtin g l = 8 * goal.size-builtin g l + 2

abbrev pub decreases-one_link : goal.decreases-one_link
decreases-one_link g l = 8 * goal.size-one_link g l + 1

abbrev pub decreases-links : goal.decreases-links
decreases-links g l = 8 * goal.size-links g l + 2

abbrev pub decreases-behind : goal.decreases-behind
decreases-behind g l = 8 * goal.size-behind g l + 1

abbrev pub decreases-on_sides : goal.decreases-on_sides
decreases-on_sides g l = 8 * max (goal.size-on_sides g l) (size-Expr l.first.now) + 2

abbrev pub decreases-of_sides : goal.decreases-of_sides
decreases-of_sides g l = 8 * max (goal.size-of_sides g l) (size-Expr l.first.now) + 3

abbrev pub decreases-chain : goal.decreases-chain
decreases-chain g l = 8 * max (goal.size-chain g l) (size-Expr l.first.now) + 4

abbrev pub decreases-one_step : goal.decreases-one_step
decreases-one_step g l = 8 * goal.size-one_step g l + 2

abbrev pub decreases-many_steps : goal.decreases-many_steps
decreases-many_steps g l = 8 * goal.size-many_steps g l + 3

abbrev pub decreases-steps : goal.decreases-steps
decreases-steps g l = 8 * goal.size-steps g l + 4

abbrev pub decreases-steps_of_name : goal.decreases-steps_of_name
decreases-steps_of_name g l = 8 * goal.size-steps_of_name g l + 5

abbrev pub decreases-post : goal.decreases-post
decreases-post g l = 8 * max (goal.size-post g l) (size-Expr l.of.now) + 6

abbrev pub decreases-with_member : goal.decreases-with_member
decreases-with_member g l = 8 * goal.size-with_member g l + 1

abbrev pub decreases-members_of : goal.decreases-members_of
decreases-members_of g l = 8 * goal.size-members_of g l + 2

abbrev pub decreases-object_literal : goal.decreases-object_literal
decreases-object_literal g l = 8 * goal.size-object_literal g l + 3
