use Rattle.std.proofs.Common.{arith, Ok, Err, refl, sym, ◌∙◌, subst, unwrap_or, List}
use Rattle.std.proofs.lemmas.Result.{err_from_is_err_and}
use Rattle.std.proofs.Math.ListN.{drop_of_length-le}
use Rattle.js_store.specs.declared.faults.StoreFault.TheVariants.{Memory}
use Rattle.js_store.proofs.Laws.{grows_refl, grows_trans, step_refl}
use Rattle.eval_tree.specs.Tree as tree
use Rattle.eval_tree.specs.Tree.{Links, expr_tree, link_tree, links_tree, steps_tree, exprs_tree, entries_tree}
use Rattle.eval_tree.proofs.Trees.{tree_of_unary, tree_of_chain, tree_of_post, tree_of_conditional, tree_of_call, tree_of_index, tree_of_property, tree_of_builtin, tree_of_object}
use Rattle.eval_values.specs.declared.value.Stop.TheVariants.{Store}
use Rattle.js_item.specs.Seen.{Val, seen}
use Rattle.js_item.proofs.Still.{key_still, fine_fields_still}
use Rattle.eval_values.specs.Outcome.{Out}
use Rattle.eval_scopes.specs.Bindings.{meant}
use Rattle.js_eval.specs.Expression.{expr_out, steps_out}
use Rattle.js_item.specs.Fine.{IsFine}
use Rattle.js_eval.specs.Seen.{scope_of}
use Rattle.eval_values.specs.Does.{GivesValue, GivesValues}
use Rattle.eval_values.proofs.Compose.{ran_free}
use Rattle.eval_values.proofs.Each.{each_turn, each_halt, each_full, fine_turn}
use Rattle.js_eval.proofs.AtHand.{alone}
use Rattle.js_eval.proofs.Leaves.{tree_of_literal, tree_of_number}
use Rattle.js_eval.proofs.Sides.{sides_value}
use Rattle.js_eval.proofs.Expressions.{seen_does, written_does, unary_does, chain_does, chain_stops, post_does, post_stops, builtin_does, builtin_stops}
use Rattle.js_eval.proofs.Expressions.{index_does, index_stops, link_decided, link_does, link_stops, condition_holds, condition_fails, condition_stops}
use Rattle.js_eval.proofs.Expressions.{name_does, name_fails, links_turn, links_halt, steps_turn, steps_halt, one_does, property_step, copy_does, copy_stops, call_does, call_stops}
use Rattle.js_eval.proofs.Expressions.{call_absent, exprs_are}
use Rattle.eval_values.proofs.Still.{seen_still, fine_still}
use Rattle.js_eval.proofs.Making.{key_stops, value_stops, entry_does, entries_turn, entries_halt, literal_does, literal_stops, makes_same}
use Rattle.js_eval.proofs.Stays.{scope_still, context_fine_still}
use Rattle.js_eval.proofs.expr.+expr.Goals as goal

pub unary-returns-clause-context : goal.unary-returns-clause-context
unary-returns-clause-context g t c =
    context_fine_still (g.S.Strings.state c.expr.new.store) (g.S.Strings.state c.apply_unary.new.store) g.S.Strings.number c.apply_unary.ensures.grows c.args.context.now c.in_ok-value.ensures.context

pub unary-returns-clause-did : goal.unary-returns-clause-did
unary-returns-clause-did g t c =
    let state = g.S.Strings.state in
    let i = c.in_ok-value.ensures.did in
    (unary_does g.S.Strings.number (state c.args.store.now) (state c.expr.new.store) (state c.apply_unary.new.store) c.in_ok-value.value
    c.apply_unary.result c.args.at c.args.minus (expr_tree c.args.of.now)
    (scope_of (state c.args.store.now) g.S.Strings.number c.args.context.now) i c.apply_unary.ensures.did)

pub chain-returns-in_err-value-clause-did : goal.chain-returns-in_err-value-clause-did
chain-returns-in_err-value-clause-did g t c =
    let state = g.S.Strings.state in
    let p = err_from_is_err_and c.from_residual.result c.from_residual.ensures.1 in
    let i = c.in_err-value.ensures.did in
    rw (p.1, p.2)
    (chain_stops g.S.Strings.number (state c.args.store.now) (state c.expr.new.store) c.in_err-value.field-0.0 (expr_tree c.args.first.now)
    (links_tree c.args.rest.now) (scope_of (state c.args.store.now) g.S.Strings.number c.args.context.now) i)

pub chain-returns-clause-did : goal.chain-returns-clause-did
chain-returns-clause-did g t c =
    let state = g.S.Strings.state in
    let i = c.in_ok-value.ensures.did in
    let k = c.links.ensures.did in
    (chain_does g.S.Strings.number (state c.args.store.now) (state c.expr.new.store) (state c.links.new.store) c.in_ok-value.value
    c.links.result (expr_tree c.args.first.now) (links_tree c.args.rest.now) c.args.context.now c.in_ok-value.ensures.grows c.requires i k)

pub chain-returns-then-needs_both-clause-did : goal.chain-returns-then-needs_both-clause-did
chain-returns-then-needs_both-clause-did g t c =
    let state = g.S.Strings.state in
    let number = g.S.Strings.number in
    let a = state c.args.store.now in
    subst (λ (q : Links). GivesValue number a (state c.of_sides.new.store) c.of_sides.result
    (expr_out (tree.chain (expr_tree c.args.first.now) q) (scope_of a number c.args.context.now)))
    (alone c.args.rest.now c.index-rest-0.result (omega arith) c.index-rest-0.is) c.of_sides.ensures.did

pub on_sides-returns-in-Some-clause-did : goal.on_sides-returns-in-Some-clause-did
on_sides-returns-in-Some-clause-did g t c =
    let state = g.S.Strings.state in
    let a = state c.args.store.now in
    sides_value g.S.Strings.number a a (state c.behind.new.store) c.in-Some.left.now c.behind.result (expr_tree c.args.first.now)
    (link_tree c.args.link.now) c.args.context.now (grows_refl a) c.requires.context c.behind.ensures.fine c.in-Some.ensures.did c.behind.ensures.did

pub on_sides-returns-in_err-left-in-None-clause-did : goal.on_sides-returns-in_err-left-in-None-clause-did
on_sides-returns-in_err-left-in-None-clause-did g t c =
    let state = g.S.Strings.state in
    let a = state c.args.store.now in
    let l = link_tree c.args.link.now in
    let p = err_from_is_err_and c.from_residual.result c.from_residual.ensures.1 in
    rw (p.1, p.2)
    (chain_stops g.S.Strings.number a (state c.expr.new.store) c.in_err-left-in-None.field-0.0 (expr_tree c.args.first.now)
    (tree.link l.at l.op l.right tree.no_links) (scope_of a g.S.Strings.number c.args.context.now) c.in_err-left-in-None.ensures.did)

pub on_sides-returns-in_ok-left-in-None-clause-did : goal.on_sides-returns-in_ok-left-in-None-clause-did
on_sides-returns-in_ok-left-in-None-clause-did g t c =
    let state = g.S.Strings.state in
    sides_value g.S.Strings.number (state c.args.store.now) (state c.expr.new.store) (state c.behind-in-None.new.store)
    c.in_ok-left-in-None.left c.behind-in-None.result (expr_tree c.args.first.now) (link_tree c.args.link.now) c.args.context.now
    c.in_ok-left-in-None.ensures.grows c.requires.context c.behind-in-None.ensures.fine c.in_ok-left-in-None.ensures.did c.behind-in-None.ensures.did

pub behind-apply-requires-clause-left : goal.behind-apply-requires-clause-left
behind-apply-requires-clause-left g t c =
    let state = g.S.Strings.state in
    fine_still (state c.args.store.now) (state c.expr.new.store) g.S.Strings.number c.in_ok-right.ensures.grows c.args.left.now c.requires.left

pub behind-returns-in_err-right-clause-did : goal.behind-returns-in_err-right-clause-did
behind-returns-in_err-right-clause-did g t c =
    let state = g.S.Strings.state in
    let a = state c.args.store.now in
    let p = err_from_is_err_and c.from_residual.result c.from_residual.ensures.1 in
    rw (p.1, p.2) (link_stops g.S.Strings.number a a c.args.left.now (link_tree c.args.link.now) (step_refl a) refl c.requires.left
    (state c.expr.new.store) c.in_err-right.field-0.0 c.args.context.now c.requires.context
    (c.requires.both (seen a g.S.Strings.number c.args.left.now)) c.in_err-right.ensures.did)

pub behind-returns-clause-context : goal.behind-returns-clause-context
behind-returns-clause-context g t c =
    context_fine_still (g.S.Strings.state c.expr.new.store) (g.S.Strings.state c.apply.new.store) g.S.Strings.number c.apply.ensures.grows c.args.context.now c.in_ok-right.ensures.context

pub behind-returns-clause-did : goal.behind-returns-clause-did
behind-returns-clause-did g t c =
    let state = g.S.Strings.state in
    let a = state c.args.store.now in
    link_does g.S.Strings.number a a c.args.left.now (link_tree c.args.link.now) (step_refl a) refl c.requires.left
    (state c.expr.new.store) (state c.apply.new.store) c.in_ok-right.right c.apply.result c.args.context.now
    c.in_ok-right.ensures.grows c.requires.context (c.requires.both (seen a g.S.Strings.number c.args.left.now)) c.in_ok-right.ensures.did c.apply.ensures.did

pub builtin-returns-in_err-values-clause-did : goal.builtin-returns-in_err-values-clause-did
builtin-returns-in_err-values-clause-did g t c =
    let state = g.S.Strings.state in
    let p = err_from_is_err_and c.from_residual.result c.from_residual.ensures.1 in
    let i = c.in_err-values.ensures.did in
    rw (p.1, p.2)
    (builtin_stops g.S.Strings.number (state c.args.store.now) (state c.exprs.new.store) c.in_err-values.field-0.0 c.args.at c.args.which
    (exprs_tree c.args.args.now) (scope_of (state c.args.store.now) g.S.Strings.number c.args.context.now) i)

pub builtin-returns-clause-context : goal.builtin-returns-clause-context
builtin-returns-clause-context g t c =
    context_fine_still (g.S.Strings.state c.exprs.new.store) (g.S.Strings.state c.call_builtin-result.new.store) g.S.Strings.number
    c.call_builtin-result.ensures.grows c.args.context.now c.in_ok-values.ensures.context

pub builtin-returns-clause-did : goal.builtin-returns-clause-did
builtin-returns-clause-did g t c =
    let state = g.S.Strings.state in
    let i = c.in_ok-values.ensures.did in
    let k = c.call_builtin-result.ensures.did in
    let e = c.deref.ensures.value in
    (builtin_does g.S.Strings.number (state c.args.store.now) (state c.exprs.new.store) (state c.call_builtin-result.new.store)
    c.in_ok-values.values c.call_builtin-result.result c.args.at c.args.which (exprs_tree c.args.args.now) c.args.context.now
    c.in_ok-values.ensures.grows i (rw e at k))

pub links-returns-in_err-value-clause-did : goal.links-returns-in_err-value-clause-did
links-returns-in_err-value-clause-did g t c =
    let state = g.S.Strings.state in
    let number = g.S.Strings.number in
    let p = err_from_is_err_and c.from_residual.result c.from_residual.ensures.1 in
    let i = c.loop-link.invariant in
    let same = scope_still (state c.args.store.now) (state c.loop-link.store) number i.grows c.args.context.now c.requires.context in
    let d = c.in_err-value.ensures.did in
    rw (p.1, p.2) (i.completes (state c.one_link.new.store) (Err c.in_err-value.field-0.0)
    (links_halt number (state c.loop-link.store) (state c.one_link.new.store) c.loop-link.value c.args.rest.now c.loop-link.link-index
    c.link-item.result (scope_of (state c.args.store.now) number c.args.context.now)
    c.loop-link-test.true c.link-item.is c.in_err-value.field-0.0 (rw same at d)))

pub links-loop-link-preserved : goal.links-loop-link-preserved
links-loop-link-preserved g t c =
    let state = g.S.Strings.state in
    let number = g.S.Strings.number in
    let i = c.loop-link.invariant in
    let same = scope_still (state c.args.store.now) (state c.loop-link.store) number i.grows c.args.context.now c.requires.context in
    let d = c.in_ok-value.ensures.did in
    record {
      grows = grows_trans i.grows c.in_ok-value.ensures.grows;
      context = c.in_ok-value.ensures.context;
      fine = c.in_ok-value.ensures.fine;
      completes = λ e r f. i.completes e r
          (links_turn number (state c.loop-link.store) (state c.one_link.new.store) e c.loop-link.value c.in_ok-value.value c.args.rest.now
          c.loop-link.link-index c.link-item.result (scope_of (state c.args.store.now) number c.args.context.now)
          c.loop-link-test.true c.link-item.is (rw same at d) r f);
    }

pub links-returns-clause-did : goal.links-returns-clause-did
links-returns-clause-did g t c =
    let past = drop_of_length-le c.args.rest.now {i = c.loop-link.link-index} c.loop-link-test.false in
    c.loop-link.invariant.completes (g.S.Strings.state c.loop-link.store) (Ok c.loop-link.value)
    (rw past (record { is = refl; good = c.loop-link.invariant.fine; ran = ran_free (g.S.Strings.state c.loop-link.store) }))

pub one_link-returns-then-is_decided-clause-context : goal.one_link-returns-then-is_decided-clause-context
one_link-returns-then-is_decided-clause-context g t c =
    context_fine_still (g.S.Strings.state c.args.store.now) (g.S.Strings.state c.is_decided.new.store) g.S.Strings.number c.is_decided.ensures.uses.step.grows c.args.context.now c.requires.context

pub one_link-returns-then-is_decided-clause-fine : goal.one_link-returns-then-is_decided-clause-fine
one_link-returns-then-is_decided-clause-fine g t c =
    fine_still (g.S.Strings.state c.args.store.now) (g.S.Strings.state c.is_decided.new.store) g.S.Strings.number c.is_decided.ensures.uses.step.grows c.args.left c.requires.left

pub one_link-returns-then-is_decided-clause-did : goal.one_link-returns-then-is_decided-clause-did
one_link-returns-then-is_decided-clause-did g t c =
    let state = g.S.Strings.state in
    let d = c.is_decided.ensures in
    link_decided g.S.Strings.number (state c.args.store.now) (state c.is_decided.new.store) c.args.left (link_tree c.args.link.now)
    d.uses.step d.uses.history c.requires.left (scope_of (state c.args.store.now) g.S.Strings.number c.args.context.now) (sym d.value ∙ c.if-is_decided.true)

pub one_link-returns-in_err-right-clause-did : goal.one_link-returns-in_err-right-clause-did
one_link-returns-in_err-right-clause-did g t c =
    let p = err_from_is_err_and c.from_residual.result c.from_residual.ensures.1 in
    let state = g.S.Strings.state in
    let d = c.is_decided.ensures in
    rw (p.1, p.2) (link_stops g.S.Strings.number (state c.args.store.now) (state c.is_decided.new.store) c.args.left
    (link_tree c.args.link.now) d.uses.step d.uses.history c.requires.left (state c.expr.new.store) c.in_err-right.field-0.0
    c.args.context.now c.requires.context (sym d.value ∙ c.if-is_decided.false) c.in_err-right.ensures.did)

pub one_link-returns-clause-context : goal.one_link-returns-clause-context
one_link-returns-clause-context g t c =
    context_fine_still (g.S.Strings.state c.expr.new.store) (g.S.Strings.state c.apply.new.store) g.S.Strings.number c.apply.ensures.grows c.args.context.now c.in_ok-right.ensures.context

pub one_link-returns-clause-did : goal.one_link-returns-clause-did
one_link-returns-clause-did g t c =
    let state = g.S.Strings.state in
    let d = c.is_decided.ensures in
    link_does g.S.Strings.number (state c.args.store.now) (state c.is_decided.new.store) c.args.left (link_tree c.args.link.now) d.uses.step d.uses.history c.requires.left
    (state c.expr.new.store) (state c.apply.new.store) c.in_ok-right.right c.apply.result c.args.context.now
    c.in_ok-right.ensures.grows c.requires.context (sym d.value ∙ c.if-is_decided.false) c.in_ok-right.ensures.did c.apply.ensures.did

pub steps-returns-then-rest-eq1-clause-did : goal.steps-returns-then-rest-eq1-clause-did
steps-returns-then-rest-eq1-clause-did g t c =
    let state = g.S.Strings.state in
    one_does g.S.Strings.number (state c.args.store.now) (state c.one_step.new.store) c.args.first.now c.args.rest.now c.index-rest-0.result
    (scope_of (state c.args.store.now) g.S.Strings.number c.args.context.now) (omega arith) c.index-rest-0.is c.one_step.result
    c.one_step.ensures.fine c.one_step.ensures.did

pub many_steps-returns-in_err-found-in-Some-clause-did : goal.many_steps-returns-in_err-found-in-Some-clause-did
many_steps-returns-in_err-found-in-Some-clause-did g t c =
    let state = g.S.Strings.state in
    let number = g.S.Strings.number in
    let p = err_from_is_err_and c.from_residual.result c.from_residual.ensures.1 in
    let i = c.loop-step.invariant in
    let a = state c.args.store.now in
    let b = state c.loop-step.store in
    let s = scope_of a number c.args.context.now in
    let none = c.in-Some.ensures.value in
    let d = c.in_err-found-in-Some.ensures.did in
    rw (p.1, p.2) (i.completes (state c.look_up_property.new.store) (Err c.in_err-found-in-Some.field-0.0)
    (rw none (steps_halt number b (state c.look_up_property.new.store) c.loop-step.place.now c.args.rest.now
    c.loop-step.step-index c.step-item.result s c.loop-step-test.true c.step-item.is c.in_err-found-in-Some.field-0.0
    (property_step number b (state c.look_up_property.new.store) (seen b number c.loop-step.place.now) c.step-item.result c.in-Some.at c.in-Some.key.now
    b.limit s (Err c.in_err-found-in-Some.field-0.0) c.in-Some.ensures.step i.grows.limit d))))

pub many_steps-loop-step-preserved-in-Some : goal.many_steps-loop-step-preserved-in-Some
many_steps-loop-step-preserved-in-Some g t c =
    let state = g.S.Strings.state in
    let number = g.S.Strings.number in
    let i = c.loop-step.invariant in
    let a = state c.args.store.now in
    let b = state c.loop-step.store in
    let d = state c.look_up_property.new.store in
    let s = scope_of a number c.args.context.now in
    let none = c.in-Some.ensures.value in
    let e = c.in_ok-found-in-Some.ensures in
    record {
      grows = grows_trans i.grows e.grows;
      context = context_fine_still b d number e.grows c.args.context.now i.context;
      fine = rw none e.fine;
      completes = λ z r f. i.completes z r (rw none
          (steps_turn number b d z c.loop-step.place.now c.in_ok-found-in-Some.found.now c.args.rest.now c.loop-step.step-index c.step-item.result s
          c.loop-step-test.true c.step-item.is
          (property_step number b d (seen b number c.loop-step.place.now) c.step-item.result c.in-Some.at c.in-Some.key.now b.limit s
          (Ok c.in_ok-found-in-Some.found.now) c.in-Some.ensures.step i.grows.limit e.did) r (rw none at f)));
    }

pub many_steps-returns-in_err-next-in-None-clause-did : goal.many_steps-returns-in_err-next-in-None-clause-did
many_steps-returns-in_err-next-in-None-clause-did g t c =
    let state = g.S.Strings.state in
    let number = g.S.Strings.number in
    let p = err_from_is_err_and c.from_residual-in_err-next-in-None.result c.from_residual-in_err-next-in-None.ensures.1 in
    let i = c.loop-step.invariant in
    let same = scope_still (state c.args.store.now) (state c.loop-step.store) number i.grows c.args.context.now c.requires.context in
    let of = c.latest-of.ensures.is in
    let d = c.in_err-next-in-None.ensures.did in
    rw (p.1, p.2) (i.completes (state c.one_step.new.store) (Err c.in_err-next-in-None.field-0.0)
    (steps_halt number (state c.loop-step.store) (state c.one_step.new.store) (unwrap_or c.loop-step.value c.loop-step.place.now) c.args.rest.now
    c.loop-step.step-index c.step-item.result (scope_of (state c.args.store.now) number c.args.context.now)
    c.loop-step-test.true c.step-item.is c.in_err-next-in-None.field-0.0 (rw (same, of) at d)))

pub many_steps-loop-step-preserved : goal.many_steps-loop-step-preserved
many_steps-loop-step-preserved g t c =
    let state = g.S.Strings.state in
    let number = g.S.Strings.number in
    let i = c.loop-step.invariant in
    let same = scope_still (state c.args.store.now) (state c.loop-step.store) number i.grows c.args.context.now c.requires.context in
    let of = c.latest-of.ensures.is in
    let d = c.in_ok-next-in-None.ensures.did in
    record {
      grows = grows_trans i.grows c.in_ok-next-in-None.ensures.grows;
      context = c.in_ok-next-in-None.ensures.context;
      fine = c.in_ok-next-in-None.ensures.fine;
      completes = λ e r f. i.completes e r
          (steps_turn number (state c.loop-step.store) (state c.one_step.new.store) e (unwrap_or c.loop-step.value c.loop-step.place.now)
          c.in_ok-next-in-None.next c.args.rest.now c.loop-step.step-index c.step-item.result (scope_of (state c.args.store.now) number c.args.context.now)
          c.loop-step-test.true c.step-item.is (rw (same, of) at d) r f);
    }

pub many_steps-returns-in-Some-value-clause-fine : goal.many_steps-returns-in-Some-value-clause-fine
many_steps-returns-in-Some-value-clause-fine g t c = rw c.in-Some-value.is at c.loop-step.invariant.fine

pub many_steps-returns-in-Some-value-clause-did : goal.many_steps-returns-in-Some-value-clause-did
many_steps-returns-in-Some-value-clause-did g t c =
    let past = drop_of_length-le c.args.rest.now {i = c.loop-step.step-index} c.loop-step-test.false in
    let k = c.loop-step.invariant.fine in
    c.loop-step.invariant.completes (g.S.Strings.state c.loop-step.store) (Ok c.in-Some-value.last)
    (rw (past, c.in-Some-value.is) (record { is = refl; good = rw c.in-Some-value.is at k; ran = ran_free (g.S.Strings.state c.loop-step.store) }))

pub many_steps-returns-in_err-copy-in-None-value-clause-did : goal.many_steps-returns-in_err-copy-in-None-value-clause-did
many_steps-returns-in_err-copy-in-None-value-clause-did g t c =
    let state = g.S.Strings.state in
    let past = drop_of_length-le c.args.rest.now {i = c.loop-step.step-index} c.loop-step-test.false in
    let p = err_from_is_err_and c.from_residual-in_err-copy-in-None-value.result c.from_residual-in_err-copy-in-None-value.ensures.1 in
    rw (p.1, p.2) (c.loop-step.invariant.completes (state c.loop-step.store) (Err (Store Memory))
    (rw past (copy_stops g.S.Strings.number (state c.loop-step.store) c.loop-step.place.now)))

pub many_steps-returns-clause-did : goal.many_steps-returns-clause-did
many_steps-returns-clause-did g t c =
    let state = g.S.Strings.state in
    let past = drop_of_length-le c.args.rest.now {i = c.loop-step.step-index} c.loop-step-test.false in
    let k = c.loop-step.invariant.fine in
    c.loop-step.invariant.completes (state c.loop-step.store) (Ok c.in_ok-copy-in-None-value.field-0)
    (rw (past, c.in-None-value.is) (copy_does g.S.Strings.number (state c.loop-step.store) c.loop-step.place.now c.in_ok-copy-in-None-value.field-0 c.in_ok-copy-in-None-value.ensures (rw c.in-None-value.is at k)))

pub one_step-returns-in-Length-clause-context : goal.one_step-returns-in-Length-clause-context
one_step-returns-in-Length-clause-context g t c =
    context_fine_still (g.S.Strings.state c.args.store.now) (g.S.Strings.state c.read_length.new.store) g.S.Strings.number c.read_length.ensures.grows c.args.context.now c.requires.context

pub exprs-loop-e-init : goal.exprs-loop-e-init
exprs-loop-e-init g t c =
    let number = g.S.Strings.number in
    let a = g.S.Strings.state c.args.store.now in
    let e = c.empty_list-values.ensures in
    record {
      grows = grows_refl a;
      context = c.requires;
      fine = rw e tt;
      completes = λ z r f. subst (λ (o : Out (List Val)). GivesValues number a z r o) (sym (exprs_are c.args.list.now (scope_of a number c.args.context.now))) (rw e at f);
    }

pub exprs-loop-e-preserved : goal.exprs-loop-e-preserved
exprs-loop-e-preserved g t c =
    let state = g.S.Strings.state in
    let number = g.S.Strings.number in
    let a = state c.args.store.now in
    let b = state c.loop-e.store in
    let d = state c.expr.new.store in
    let meant = scope_of a number c.args.context.now in
    let i = c.loop-e.invariant in
    let e = c.in_ok-value.ensures in
    let did = e.did in
    let p = c.in_ok-push.ensures.added in
    let same = scope_still a b number i.grows c.args.context.now c.requires in
    record {
      grows = grows_trans i.grows e.grows;
      context = e.context;
      fine = rw p (fine_turn (λ s v. seen s number v) (λ s v. IsFine s number v) b d (λ x. expr_out (expr_tree x) meant)
          c.loop-e.values.items c.args.list.now c.loop-e.e-index c.e-item.result c.loop-e-test.true c.e-item.is c.in_ok-value.value
          (λ v k. fine_still b d number e.grows v k) i.fine e.fine);
      completes = λ z r f. i.completes z r (each_turn (λ s v. seen s number v) (λ s v. IsFine s number v) b d
          (λ x. expr_out (expr_tree x) meant) c.loop-e.values.items c.args.list.now c.loop-e.e-index c.e-item.result c.loop-e-test.true
          c.e-item.is z c.in_ok-value.value r (λ v k. seen_still b d number e.grows v k) i.fine (rw same at did) (rw p at f));
    }

pub exprs-returns-in_err-value-clause-did : goal.exprs-returns-in_err-value-clause-did
exprs-returns-in_err-value-clause-did g t c =
    let state = g.S.Strings.state in
    let number = g.S.Strings.number in
    let a = state c.args.store.now in
    let i = c.loop-e.invariant in
    let p = err_from_is_err_and c.from_residual.result c.from_residual.ensures.1 in
    let did = c.in_err-value.ensures.did in
    let same = scope_still a (state c.loop-e.store) number i.grows c.args.context.now c.requires in
    rw (p.1, p.2) (i.completes (state c.expr.new.store) (Err c.in_err-value.field-0.0)
    (each_halt (λ s v. seen s number v) (λ s v. IsFine s number v) (state c.loop-e.store) (state c.expr.new.store)
    (λ x. expr_out (expr_tree x) (scope_of a number c.args.context.now)) c.loop-e.values.items c.args.list.now c.loop-e.e-index
    c.e-item.result c.loop-e-test.true c.e-item.is c.in_err-value.field-0.0 (rw same at did)))

pub exprs-returns-in_err-push-clause-did : goal.exprs-returns-in_err-push-clause-did
exprs-returns-in_err-push-clause-did g t c =
    let state = g.S.Strings.state in
    let number = g.S.Strings.number in
    let a = state c.args.store.now in
    let i = c.loop-e.invariant in
    let p = err_from_is_err_and c.from_residual-in_err-push.result c.from_residual-in_err-push.ensures.1 in
    let did = c.in_ok-value.ensures.did in
    let same = scope_still a (state c.loop-e.store) number i.grows c.args.context.now c.requires in
    rw (p.1, p.2, c.in_err-push.ensures.fault) (i.completes (state c.expr.new.store) (Err (Store Memory))
    (each_full (λ s v. seen s number v) (λ s v. IsFine s number v) (state c.loop-e.store) (state c.expr.new.store)
    (λ x. expr_out (expr_tree x) (scope_of a number c.args.context.now)) c.loop-e.values.items c.args.list.now c.loop-e.e-index
    c.e-item.result c.loop-e-test.true c.e-item.is c.in_ok-value.value (rw same at did)))

pub exprs-returns-clause-did : goal.exprs-returns-clause-did
exprs-returns-clause-did g t c =
    let past = drop_of_length-le c.args.list.now {i = c.loop-e.e-index} c.loop-e-test.false in
    c.loop-e.invariant.completes (g.S.Strings.state c.loop-e.store) (Ok c.loop-e.values)
    (rw past (record { is = refl; good = c.loop-e.invariant.fine; ran = ran_free (g.S.Strings.state c.loop-e.store) }))

pub one_step-returns-in_err-present-in-Call-clause-did : goal.one_step-returns-in_err-present-in-Call-clause-did
one_step-returns-in_err-present-in-Call-clause-did g t c =
    let a = g.S.Strings.state c.args.store.now in
    let number = g.S.Strings.number in
    let p = err_from_is_err_and c.from_residual.result c.from_residual.ensures.1 in
    rw (p.1, p.2, c.in-Call.is, tree_of_call c.in-Call.at c.in-Call.method c.in-Call.args)
    (call_absent number a c.args.value.now c.in_err-present-in-Call.field-0.0 c.in-Call.at c.in-Call.method
    (exprs_tree c.in-Call.args.items) (scope_of a number c.args.context.now) c.in_err-present-in-Call.ensures)

pub one_step-returns-in_err-values-in-Call-clause-did : goal.one_step-returns-in_err-values-in-Call-clause-did
one_step-returns-in_err-values-in-Call-clause-did g t c =
    let state = g.S.Strings.state in
    let p = err_from_is_err_and c.from_residual-in_err-values-in-Call.result c.from_residual-in_err-values-in-Call.ensures.1 in
    let e = c.deref.ensures.value in
    let d = c.in_err-values-in-Call.ensures.did in
    rw (p.1, p.2, c.in-Call.is, tree_of_call c.in-Call.at c.in-Call.method c.in-Call.args)
    (call_stops g.S.Strings.number (state c.args.store.now) (state c.exprs.new.store) c.args.value.now c.in_err-values-in-Call.field-0.0
    c.in-Call.at c.in-Call.method (exprs_tree c.in-Call.args.items) c.args.context.now c.in_ok-present-in-Call.ensures (rw e at d))

pub one_step-returns-in_ok-values-in-Call-clause-context : goal.one_step-returns-in_ok-values-in-Call-clause-context
one_step-returns-in_ok-values-in-Call-clause-context g t c =
    context_fine_still (g.S.Strings.state c.exprs.new.store) (g.S.Strings.state c.call-result.new.store) g.S.Strings.number c.call-result.ensures.grows c.args.context.now c.in_ok-values-in-Call.ensures.context

pub one_step-returns-in_ok-values-in-Call-clause-did : goal.one_step-returns-in_ok-values-in-Call-clause-did
one_step-returns-in_ok-values-in-Call-clause-did g t c =
    let state = g.S.Strings.state in
    let e = c.deref.ensures.value in
    let f = c.deref-in-Call.ensures.value in
    let d = c.in_ok-values-in-Call.ensures.did in
    let k = c.call-result.ensures.did in
    rw (c.in-Call.is, tree_of_call c.in-Call.at c.in-Call.method c.in-Call.args)
    (call_does g.S.Strings.number (state c.args.store.now) (state c.exprs.new.store) (state c.call-result.new.store) c.args.value.now
    c.in_ok-values-in-Call.values c.call-result.result c.in-Call.at c.in-Call.method (exprs_tree c.in-Call.args.items) c.args.context.now
    c.in_ok-values-in-Call.ensures.grows c.requires.value c.in_ok-present-in-Call.ensures (rw e at d) (rw f at k))

pub one_step-returns-in_err-index-in-None-clause-did : goal.one_step-returns-in_err-index-in-None-clause-did
one_step-returns-in_err-index-in-None-clause-did g t c =
    let state = g.S.Strings.state in
    let p = err_from_is_err_and c.from_residual-in_err-index-in-None.result c.from_residual-in_err-index-in-None.ensures.1 in
    rw (p.1, p.2, c.in-Index.is, tree_of_index c.in-Index.at c.in-Index.index)
    (index_stops g.S.Strings.number (state c.args.store.now) (state c.expr.new.store) c.args.value.now c.in_err-index-in-None.field-0.0
    c.in-Index.at (expr_tree c.in-Index.index) (scope_of (state c.args.store.now) g.S.Strings.number c.args.context.now) c.in_err-index-in-None.ensures.did)

pub one_step-returns-in_ok-index-in-None-clause-context : goal.one_step-returns-in_ok-index-in-None-clause-context
one_step-returns-in_ok-index-in-None-clause-context g t c =
    context_fine_still (g.S.Strings.state c.expr.new.store) (g.S.Strings.state c.read_index-in-None.new.store) g.S.Strings.number
    c.read_index-in-None.ensures.grows c.args.context.now c.in_ok-index-in-None.ensures.context

pub one_step-returns-in_ok-index-in-None-clause-did : goal.one_step-returns-in_ok-index-in-None-clause-did
one_step-returns-in_ok-index-in-None-clause-did g t c =
    let state = g.S.Strings.state in
    rw (c.in-Index.is, tree_of_index c.in-Index.at c.in-Index.index)
    (index_does g.S.Strings.number (state c.args.store.now) (state c.expr.new.store) (state c.read_index-in-None.new.store) c.args.value.now
    c.in_ok-index-in-None.index c.read_index-in-None.result c.in-Index.at (expr_tree c.in-Index.index) c.args.context.now
    c.in_ok-index-in-None.ensures.grows c.requires.value c.in_ok-index-in-None.ensures.did c.read_index-in-None.ensures.did)

pub one_step-returns-in-Some-clause-context : goal.one_step-returns-in-Some-clause-context
one_step-returns-in-Some-clause-context g t c =
    context_fine_still (g.S.Strings.state c.args.store.now) (g.S.Strings.state c.read_index.new.store) g.S.Strings.number c.read_index.ensures.grows c.args.context.now c.requires.context

pub one_step-returns-in-Some-clause-did : goal.one_step-returns-in-Some-clause-did
one_step-returns-in-Some-clause-did g t c =
    let state = g.S.Strings.state in
    let a = state c.args.store.now in
    rw (c.in-Index.is, tree_of_index c.in-Index.at c.in-Index.index)
    (index_does g.S.Strings.number a a (state c.read_index.new.store) c.args.value.now c.in-Some.index.now c.read_index.result c.in-Index.at
    (expr_tree c.in-Index.index) c.args.context.now (grows_refl a) c.requires.value c.in-Some.ensures.did c.read_index.ensures.did)

pub exprs-returns-in_err-value-clause-grows : goal.exprs-returns-in_err-value-clause-grows
exprs-returns-in_err-value-clause-grows g t c = grows_trans c.loop-e.invariant.grows c.in_err-value.ensures.grows

pub exprs-returns-in_err-push-clause-grows : goal.exprs-returns-in_err-push-clause-grows
exprs-returns-in_err-push-clause-grows g t c = grows_trans c.loop-e.invariant.grows c.in_ok-value.ensures.grows

pub conditional-returns-in_err-value-clause-did : goal.conditional-returns-in_err-value-clause-did
conditional-returns-in_err-value-clause-did g t c =
    let state = g.S.Strings.state in
    let p = err_from_is_err_and c.from_residual.result c.from_residual.ensures.1 in
    let i = c.in_err-value.ensures.did in
    rw (p.1, p.2)
    (condition_stops g.S.Strings.number (state c.args.store.now) (state c.test_value.new.store) c.in_err-value.field-0.0
    (expr_tree c.args.test.now) (expr_tree c.args.yes.now) (expr_tree c.args.no.now)
    (scope_of (state c.args.store.now) g.S.Strings.number c.args.context.now) i)

pub conditional-returns-then-is_true-clause-did : goal.conditional-returns-then-is_true-clause-did
conditional-returns-then-is_true-clause-did g t c =
    let state = g.S.Strings.state in
    let i = c.in_ok-value.ensures.did in
    let k = c.expr.ensures.did in
    (condition_holds g.S.Strings.number (state c.args.store.now) (state c.test_value.new.store) (state c.is_true.new.store)
    (state c.expr.new.store) c.in_ok-value.value c.expr.result (expr_tree c.args.test.now)
    (expr_tree c.args.yes.now) (expr_tree c.args.no.now) c.args.context.now c.in_ok-value.ensures.grows c.is_true.ensures.uses.step
    c.is_true.ensures.uses.history c.requires i (sym c.is_true.ensures.value ∙ c.if-is_true.true) k)

pub conditional-returns-clause-did : goal.conditional-returns-clause-did
conditional-returns-clause-did g t c =
    let state = g.S.Strings.state in
    let i = c.in_ok-value.ensures.did in
    let k = c.expr-else-is_true.ensures.did in
    (condition_fails g.S.Strings.number (state c.args.store.now) (state c.test_value.new.store) (state c.is_true.new.store)
    (state c.expr-else-is_true.new.store) c.in_ok-value.value c.expr-else-is_true.result (expr_tree c.args.test.now)
    (expr_tree c.args.yes.now) (expr_tree c.args.no.now) c.args.context.now c.in_ok-value.ensures.grows c.is_true.ensures.uses.step
    c.is_true.ensures.uses.history c.requires i (sym c.is_true.ensures.value ∙ c.if-is_true.false) k)

pub steps_of_name-returns-in-None-clause-did : goal.steps_of_name-returns-in-None-clause-did
steps_of_name-returns-in-None-clause-did g t c =
    let state = g.S.Strings.state in
    let s = scope_of (state c.args.store.now) g.S.Strings.number c.args.context.now in
    name_fails g.S.Strings.number (state c.args.store.now) (meant s.bindings c.args.name.now) (λ v. steps_out (steps_tree c.args.rest.now) s v) c.in-None.ensures.meant

pub steps_of_name-returns-in-Some-clause-did : goal.steps_of_name-returns-in-Some-clause-did
steps_of_name-returns-in-Some-clause-did g t c =
    let state = g.S.Strings.state in
    let s = scope_of (state c.args.store.now) g.S.Strings.number c.args.context.now in
    name_does g.S.Strings.number (state c.args.store.now) (meant s.bindings c.args.name.now) (state c.steps.new.store) c.in-Some.value.now
    c.steps.result (λ v. steps_out (steps_tree c.args.rest.now) s v) c.in-Some.ensures.meant c.in-Some.ensures.fine c.steps.ensures.did

pub expr-returns-in-Literal-clause-did : goal.expr-returns-in-Literal-clause-did
expr-returns-in-Literal-clause-did g t c =
    let d = c.read_literal.ensures in
    rw (c.in-Literal.is, tree_of_literal c.in-Literal.number) (seen_does g.S.Strings.number (g.S.Strings.state c.args.store.now) c.read_literal.result _ d.seen d.fine)

pub expr-returns-in-Number-clause-did : goal.expr-returns-in-Number-clause-did
expr-returns-in-Number-clause-did g t c =
    rw (c.in-Number.is, tree_of_number c.in-Number.value) (written_does g.S.Strings.number (g.S.Strings.state c.args.store.now) c.number_value.result c.in-Number.value c.number_value.ensures)

pub builtin-returns-clause-grows : goal.builtin-returns-clause-grows
builtin-returns-clause-grows g t c = grows_trans c.in_ok-values.ensures.grows c.call_builtin-result.ensures.grows

pub one_link-apply-requires-clause-left : goal.one_link-apply-requires-clause-left
one_link-apply-requires-clause-left g t c =
    let state = g.S.Strings.state in
    fine_still (state c.args.store.now) (state c.expr.new.store) g.S.Strings.number (grows_trans c.is_decided.ensures.uses.step.grows c.in_ok-right.ensures.grows) c.args.left c.requires.left

pub post-returns-in_err-value-in-None-clause-did : goal.post-returns-in_err-value-in-None-clause-did
post-returns-in_err-value-in-None-clause-did g t c =
    let state = g.S.Strings.state in
    let p = err_from_is_err_and c.from_residual.result c.from_residual.ensures.1 in
    let i = c.in_err-value-in-None.ensures.did in
    rw (p.1, p.2)
    (post_stops g.S.Strings.number (state c.args.store.now) (state c.expr.new.store) c.in_err-value-in-None.field-0.0
    (expr_tree c.args.of.now) (steps_tree c.args.rest.now) (scope_of (state c.args.store.now) g.S.Strings.number c.args.context.now) i)

pub post-returns-in_ok-value-in-None-clause-did : goal.post-returns-in_ok-value-in-None-clause-did
post-returns-in_ok-value-in-None-clause-did g t c =
    let state = g.S.Strings.state in
    let i = c.in_ok-value-in-None.ensures.did in
    let k = c.steps.ensures.did in
    (post_does g.S.Strings.number (state c.args.store.now) (state c.expr.new.store) (state c.steps.new.store) c.in_ok-value-in-None.value
    c.steps.result (expr_tree c.args.of.now) (steps_tree c.args.rest.now) c.args.context.now c.in_ok-value-in-None.ensures.grows c.requires i k)

pub expr-returns-in-Unary-clause-did : goal.expr-returns-in-Unary-clause-did
expr-returns-in-Unary-clause-did g t c =
    let w = c.unary.ensures.did in
    rw (c.in-Unary.is, tree_of_unary c.in-Unary.at c.in-Unary.minus c.in-Unary.of) (rw c.deref.ensures at w)

pub expr-returns-in-Chain-clause-did : goal.expr-returns-in-Chain-clause-did
expr-returns-in-Chain-clause-did g t c =
    let w = c.chain.ensures.did in
    rw (c.in-Chain.is, tree_of_chain c.in-Chain.first c.in-Chain.rest) (rw (c.deref-in-Chain.ensures.value, c.deref-in-Chain-2.ensures) at w)

pub expr-returns-in-Cond-clause-did : goal.expr-returns-in-Cond-clause-did
expr-returns-in-Cond-clause-did g t c =
    let w = c.conditional.ensures.did in
    rw (c.in-Cond.is, tree_of_conditional c.in-Cond.test c.in-Cond.yes c.in-Cond.no) (rw (c.deref-in-Cond.ensures, c.deref-in-Cond-2.ensures, c.deref-in-Cond-3.ensures) at w)

pub expr-returns-in-Post-clause-did : goal.expr-returns-in-Post-clause-did
expr-returns-in-Post-clause-did g t c =
    let w = c.post.ensures.did in
    rw (c.in-Post.is, tree_of_post c.in-Post.of c.in-Post.rest) (rw (c.deref-in-Post.ensures.value, c.deref-in-Post-2.ensures) at w)

pub expr-returns-in-Builtin-clause-did : goal.expr-returns-in-Builtin-clause-did
expr-returns-in-Builtin-clause-did g t c =
    let w = c.builtin.ensures.did in
    rw (c.in-Builtin.is, tree_of_builtin c.in-Builtin.at c.in-Builtin.which c.in-Builtin.args) (rw c.deref-in-Builtin.ensures.value at w)

pub expr-returns-in-Object-clause-did : goal.expr-returns-in-Object-clause-did
expr-returns-in-Object-clause-did g t c =
    let w = c.object_literal.ensures.did in
    rw (c.in-Object.is, tree_of_object c.in-Object.at c.in-Object.members) (rw c.deref-in-Object.ensures.value at w)

pub object_literal-returns-in_err-object-clause-did : goal.object_literal-returns-in_err-object-clause-did
object_literal-returns-in_err-object-clause-did g t c =
    let state = g.S.Strings.state in
    let p = err_from_is_err_and c.from_residual.result c.from_residual.ensures.1 in
    rw (p.1, p.2)
    (literal_stops g.S.Strings.number (state c.args.store.now) (state c.members_of.new.store) c.args.at (entries_tree c.args.members.now)
    (scope_of (state c.args.store.now) g.S.Strings.number c.args.context.now) c.in_err-object.field-0.0 c.in_err-object.ensures.did)

pub object_literal-returns-clause-did : goal.object_literal-returns-clause-did
object_literal-returns-clause-did g t c =
    let state = g.S.Strings.state in
    literal_does g.S.Strings.number (state c.args.store.now) (state c.members_of.new.store) c.args.at (entries_tree c.args.members.now)
    (scope_of (state c.args.store.now) g.S.Strings.number c.args.context.now) (state c.members_of.new.store) c.in_ok-object.object
    c.bounded.result c.in_ok-object.ensures.did c.bounded.ensures.did

pub members_of-loop-member-init : goal.members_of-loop-member-init
members_of-loop-member-init g t c =
    let e = c.new-object.ensures in
    record {
      grows = grows_refl (g.S.Strings.state c.args.store.now);
      context = c.requires;
      fine = rw e tt;
      completes = λ z r f. rw e at f;
    }

pub members_of-returns-in_err-object-clause-grows : goal.members_of-returns-in_err-object-clause-grows
members_of-returns-in_err-object-clause-grows g t c = grows_trans c.loop-member.invariant.grows c.in_err-object.ensures.grows

pub members_of-returns-in_err-object-clause-did : goal.members_of-returns-in_err-object-clause-did
members_of-returns-in_err-object-clause-did g t c =
    let state = g.S.Strings.state in
    let number = g.S.Strings.number in
    let a = state c.args.store.now in
    let b = state c.loop-member.store in
    let i = c.loop-member.invariant in
    let p = err_from_is_err_and c.from_residual.result c.from_residual.ensures.1 in
    let same = scope_still a b number i.grows c.args.context.now c.requires in
    let d = c.in_err-object.ensures.did in
    rw (p.1, p.2) (i.completes (state c.with_member.new.store) (Err c.in_err-object.field-0.0)
    (entries_halt number b (state c.with_member.new.store) (scope_of a number c.args.context.now) c.loop-member.object c.args.members.now
    c.loop-member.member-index c.member-item.result c.loop-member-test.true c.member-item.is c.in_err-object.field-0.0 (rw same at d)))

pub members_of-loop-member-preserved : goal.members_of-loop-member-preserved
members_of-loop-member-preserved g t c =
    let state = g.S.Strings.state in
    let number = g.S.Strings.number in
    let a = state c.args.store.now in
    let b = state c.loop-member.store in
    let i = c.loop-member.invariant in
    let same = scope_still a b number i.grows c.args.context.now c.requires in
    let d = c.in_ok-object.ensures.did in
    record {
      grows = grows_trans i.grows c.in_ok-object.ensures.grows;
      context = c.in_ok-object.ensures.context;
      fine = c.in_ok-object.ensures.fine;
      completes = λ e r f. i.completes e r
          (entries_turn number b (state c.with_member.new.store) (scope_of a number c.args.context.now) c.loop-member.object
          c.args.members.now c.loop-member.member-index c.member-item.result c.loop-member-test.true c.member-item.is e
          c.in_ok-object.object r (rw same at d) f);
    }

pub members_of-returns-clause-did : goal.members_of-returns-clause-did
members_of-returns-clause-did g t c =
    let past = drop_of_length-le c.args.members.now {i = c.loop-member.member-index} c.loop-member-test.false in
    makes_same g.S.Strings.number (g.S.Strings.state c.args.store.now) (g.S.Strings.state c.loop-member.store) c.loop-member.object
    c.finish.result _ c.finish.ensures
    (c.loop-member.invariant.completes (g.S.Strings.state c.loop-member.store) (Ok c.loop-member.object)
    (rw past (record { is = refl; good = c.loop-member.invariant.fine; ran = ran_free (g.S.Strings.state c.loop-member.store) })))

pub with_member-returns-in_err-key-clause-did : goal.with_member-returns-in_err-key-clause-did
with_member-returns-in_err-key-clause-did g t c =
    let state = g.S.Strings.state in
    let p = err_from_is_err_and c.from_residual.result c.from_residual.ensures.1 in
    let d = c.in_err-key.ensures.did in
    rw (p.1, p.2) (key_stops g.S.Strings.number (state c.args.store.now) (state c.intern_key.new.store) c.args.member.now.0
    (expr_tree c.args.member.now.1) c.args.context.now c.args.object c.in_err-key.field-0.0 (rw c.as_slice.ensures at d))

pub with_member-returns-in_err-value-clause-did : goal.with_member-returns-in_err-value-clause-did
with_member-returns-in_err-value-clause-did g t c =
    let state = g.S.Strings.state in
    let p = err_from_is_err_and c.from_residual-in_err-value.result c.from_residual-in_err-value.ensures.1 in
    let d = c.in_ok-key.ensures.did in
    rw (p.1, p.2) (value_stops g.S.Strings.number (state c.args.store.now) (state c.intern_key.new.store) c.args.member.now.0
    (expr_tree c.args.member.now.1) c.args.context.now c.args.object c.in_ok-key.key c.in_ok-key.ensures.grows c.requires.context
    (rw c.as_slice.ensures at d) (state c.expr.new.store) c.in_err-value.field-0.0 c.in_err-value.ensures.did)

pub with_member-put-requires-clause-object : goal.with_member-put-requires-clause-object
with_member-put-requires-clause-object g t c =
    let state = g.S.Strings.state in
    fine_fields_still (state c.args.store.now) (state c.expr.new.store) (grows_trans c.in_ok-key.ensures.grows c.in_ok-value.ensures.grows) g.S.Strings.number c.args.object c.requires.object

pub with_member-put-requires-clause-key : goal.with_member-put-requires-clause-key
with_member-put-requires-clause-key g t c =
    let state = g.S.Strings.state in
    key_still (state c.intern_key.new.store) (state c.expr.new.store) c.in_ok-value.ensures.grows (g.S.Strings.number c.in_ok-key.key) c.in_ok-key.ensures.fine

pub with_member-returns-clause-grows : goal.with_member-returns-clause-grows
with_member-returns-clause-grows g t c = grows_trans (grows_trans c.in_ok-key.ensures.grows c.in_ok-value.ensures.grows) c.put.ensures.grows

pub with_member-returns-clause-context : goal.with_member-returns-clause-context
with_member-returns-clause-context g t c =
    context_fine_still (g.S.Strings.state c.expr.new.store) (g.S.Strings.state c.put.new.store) g.S.Strings.number c.put.ensures.grows c.args.context.now c.in_ok-value.ensures.context

pub with_member-returns-clause-did : goal.with_member-returns-clause-did
with_member-returns-clause-did g t c =
    let state = g.S.Strings.state in
    let d = c.in_ok-key.ensures.did in
    entry_does g.S.Strings.number (state c.args.store.now) (state c.intern_key.new.store) c.args.member.now.0
    (expr_tree c.args.member.now.1) c.args.context.now c.args.object c.in_ok-key.key c.in_ok-key.ensures.grows c.requires.context
    (rw c.as_slice.ensures at d) (state c.expr.new.store) (state c.put.new.store) c.in_ok-value.value c.put.result
    c.in_ok-value.ensures.grows c.requires.object c.in_ok-key.ensures.fine c.in_ok-value.ensures.did c.put.ensures.did

pub one_step-returns-in-Property-clause-context : goal.one_step-returns-in-Property-clause-context
one_step-returns-in-Property-clause-context g t c =
    context_fine_still (g.S.Strings.state c.args.store.now) (g.S.Strings.state c.read_property.new.store) g.S.Strings.number c.read_property.ensures.grows c.args.context.now c.requires.context

pub one_step-returns-in-Property-clause-did : goal.one_step-returns-in-Property-clause-did
one_step-returns-in-Property-clause-did g t c =
    let d = c.read_property.ensures.did in
    rw (c.in-Property.is, tree_of_property c.in-Property.at c.in-Property.key) (rw c.as_slice.ensures at d)

pub one_step-returns-in-Description-clause-context : goal.one_step-returns-in-Description-clause-context
one_step-returns-in-Description-clause-context g t c =
    context_fine_still (g.S.Strings.state c.args.store.now) (g.S.Strings.state c.read_description.new.store) g.S.Strings.number c.read_description.ensures.grows c.args.context.now c.requires.context

pub one_step-call-result-requires-clause-fine : goal.one_step-call-result-requires-clause-fine
one_step-call-result-requires-clause-fine g t c =
    fine_still (g.S.Strings.state c.args.store.now) (g.S.Strings.state c.exprs.new.store) g.S.Strings.number c.in_ok-values-in-Call.ensures.grows c.args.value.now c.requires.value

pub one_step-returns-in_ok-values-in-Call-clause-grows : goal.one_step-returns-in_ok-values-in-Call-clause-grows
one_step-returns-in_ok-values-in-Call-clause-grows g t c = grows_trans c.in_ok-values-in-Call.ensures.grows c.call-result.ensures.grows

pub one_step-read_index-requires-in-None-clause-value : goal.one_step-read_index-requires-in-None-clause-value
one_step-read_index-requires-in-None-clause-value g t c =
    fine_still (g.S.Strings.state c.args.store.now) (g.S.Strings.state c.expr.new.store) g.S.Strings.number c.in_ok-index-in-None.ensures.grows c.args.value.now c.requires.value

pub many_steps-returns-in_err-found-in-Some-clause-context : goal.many_steps-returns-in_err-found-in-Some-clause-context
many_steps-returns-in_err-found-in-Some-clause-context g t c =
    context_fine_still (g.S.Strings.state c.loop-step.store) (g.S.Strings.state c.look_up_property.new.store) g.S.Strings.number
    c.in_err-found-in-Some.ensures.grows c.args.context.now c.loop-step.invariant.context
