use Rattle.std.proofs.Common.{rules, ◌≡◌, ◌∙◌, [], ◌∷◌, ◌++◌, ap, map, arith}
use Rattle.std.proofs.lemmas.Result.{err_from_is_err_and}
use Rattle.eval_tree.specs.Tree.{expr_tree, step_tree, link_tree, entry_tree}
use Rattle.parse_syntax.specs.Tables.{tables_of}
use Rattle.parse_syntax.specs.Grammar.{chain_of, post_of}
use Rattle.parse_statements.proofs.Turns.{chain_first, chain_right, chain_done, link_smaller, link_kept, post_first, post_step, post_done, step_smaller}
use Rattle.parse_statements.proofs.Turns.{step_kept, args_close, args_done, item_smaller, item_kept}
use Rattle.parse_statements.proofs.Parts.{member_fails as call_fails, member_done as call_done, inside_fails, bracket_fails, step_done, unary_fails, unary_done}
use Rattle.parse_statements.proofs.Parts.{yes_fails, colon_fails, no_fails, branches_done}
use Rattle.parse_statements.proofs.Members.{member_smaller, member_kept, member_fails, members_close, members_done}
use Rattle.parse_statements.proofs.expr.+expr.Goals as goal

pub chained-returns-in_err-first : goal.chained-returns-in_err-first
chained-returns-in_err-first t c =
    let p = err_from_is_err_and c.from_residual.result c.from_residual.ensures.1 in
    rw (p.1, p.2) (chain_first (tables_of c.args.tables.now) c.args.room c.args.level c.args.tokens.now c.in_err-first.field-0.0 c.in_err-first.ensures)

pub chained-returns-in_err-right : goal.chained-returns-in_err-right
chained-returns-in_err-right t c =
    let p = err_from_is_err_and c.from_residual-in_err-right.result c.from_residual-in_err-right.ensures.1 in
    rw (p.1, p.2) (chain_right (tables_of c.args.tables.now) c.args.room c.args.level c.args.tokens.now c.in_ok-first.rest.now _
    c.in_ok-first.ensures _ c.loop-op.rest.now c.loop-op.invariant.0 _ c.in-Some.after.now c.in-Some.ensures c.in_err-right.field-0.0 c.in_err-right.ensures)

pub chained-loop-op-smaller : goal.chained-loop-op-smaller
chained-loop-op-smaller t c =
    link_smaller (tables_of c.args.tables.now) c.args.room c.args.level c.loop-op.rest.now c.in-Some.after.now c.in_ok-right.after.now _ _ c.in-Some.ensures c.in_ok-right.ensures

pub chained-loop-op-preserved : goal.chained-loop-op-preserved
chained-loop-op-preserved t c = (
  link_kept (tables_of c.args.tables.now) c.args.room c.args.level c.loop-op.rest.now c.in-Some.after.now c.in_ok-right.after.now _ _
      c.loop-op.links.items c.add.new.list.items _ _ c.in-Some.ensures c.in_ok-right.ensures c.in_ok-add.ensures.items c.link.ensures
      c.loop-op.invariant.0,
  c.loop-op.invariant.1,
)

pub chained-returns : goal.chained-returns
chained-returns t c =
    chain_done (tables_of c.args.tables.now) c.args.room c.args.level c.args.tokens.now c.in_ok-first.rest.now _ c.in_ok-first.ensures _
    c.loop-op.rest.now c.loop-op.invariant.0 c.in_default.ensures _ (c.in_ok-tree.ensures ∙ ap
    (λ f. chain_of (expr_tree f) (map link_tree c.loop-op.links.items)) c.loop-op.invariant.1)

pub postfix-returns-in_err-of : goal.postfix-returns-in_err-of
postfix-returns-in_err-of t c =
    let p = err_from_is_err_and c.from_residual.result c.from_residual.ensures.1 in
    rw (p.1, p.2) (post_first (tables_of c.args.tables.now) c.args.room c.args.tokens.now c.in_err-of.field-0.0 c.in_err-of.ensures)

pub postfix-returns-in_err-step : goal.postfix-returns-in_err-step
postfix-returns-in_err-step t c =
    let p = err_from_is_err_and c.from_residual-in_err-step.result c.from_residual-in_err-step.ensures.1 in
    rw (p.1, p.2) (post_step (tables_of c.args.tables.now) c.args.room c.args.tokens.now c.in_ok-of.rest.now _ _ c.loop-rest.rest.now
    c.in_ok-of.ensures c.loop-rest.invariant.0 (search rules) c.in_err-step.field-0.0 c.in_err-step.ensures)

pub postfix-loop-rest-smaller : goal.postfix-loop-rest-smaller
postfix-loop-rest-smaller t c = step_smaller (tables_of c.args.tables.now) c.args.room c.loop-rest.rest.now c.in_ok-step.after.now _ c.in_ok-step.ensures

pub postfix-loop-rest-preserved : goal.postfix-loop-rest-preserved
postfix-loop-rest-preserved t c = (
  step_kept (tables_of c.args.tables.now) c.args.room c.loop-rest.rest.now c.in_ok-step.after.now c.loop-rest.steps.items
      c.add.new.list.items _ _ (search rules) c.in_ok-step.ensures c.in_ok-add.ensures.items c.loop-rest.invariant.0,
  c.loop-rest.invariant.1,
)

pub postfix-returns : goal.postfix-returns
postfix-returns t c =
    post_done (tables_of c.args.tables.now) c.args.room c.args.tokens.now c.in_ok-of.rest.now _ _ c.loop-rest.rest.now c.in_ok-of.ensures
    c.loop-rest.invariant.0 (search rules) _ (c.in_ok-tree.ensures ∙ ap (λ f. post_of (expr_tree f) (map step_tree c.loop-rest.steps.items))
    c.loop-rest.invariant.1)

pub args-loop-after-smaller : goal.args-loop-after-smaller
args-loop-after-smaller t c =
    item_smaller (tables_of c.args.tables.now) c.args.room c.loop-after.rest.now c.in-Some-behind.after.now c.in_ok-item.after.now tt _ c.requires c.in-Some-behind.ensures c.in_ok-item.ensures

pub args-loop-after-preserved : goal.args-loop-after-preserved
args-loop-after-preserved t c =
    item_kept (tables_of c.args.tables.now) c.args.room c.loop-after.rest.now c.in-Some-behind.after.now c.in_ok-item.after.now tt
    c.loop-after.items.items c.add-in-Some-behind.new.list.items _ _ c.requires c.in-Some-behind.ensures c.in_ok-item.ensures
    c.in_ok-add-2.ensures.items c.loop-after.invariant

pub args-returns-in_err-rest-2 : goal.args-returns-in_err-rest-2
args-returns-in_err-rest-2 t c =
    let p = err_from_is_err_and c.from_residual-in_err-rest-2.result c.from_residual-in_err-rest-2.ensures.1 in
    let start : c.add.new.list.items ≡ c.in_ok-first.first ∷ [] = c.in_ok-add.ensures.items ∙ ap (λ l. l ++ c.in_ok-first.first ∷ []) c.new-items.ensures.items in
    rw (p.1, p.2) (args_close (tables_of c.args.tables.now) c.args.room c.requires c.args.tokens.now c.in_ok-rest.rest.now
    c.in_ok-first.rest.now tt _ c.in_ok-rest.ensures c.in_default.ensures c.in_ok-first.ensures _ _ c.loop-after.rest.now
    (ap (map expr_tree) start) c.loop-after.invariant c.in_default-behind.ensures c.in_err-rest-2.field-0.0 c.in_err-rest-2.ensures)

pub args-returns : goal.args-returns
args-returns t c =
    let start : c.add.new.list.items ≡ c.in_ok-first.first ∷ [] = c.in_ok-add.ensures.items ∙ ap (λ l. l ++ c.in_ok-first.first ∷ []) c.new-items.ensures.items in
    args_done (tables_of c.args.tables.now) c.args.room c.requires c.args.tokens.now c.in_ok-rest.rest.now c.in_ok-first.rest.now tt _
    c.in_ok-rest.ensures c.in_default.ensures c.in_ok-first.ensures _ _ c.loop-after.rest.now (ap (map expr_tree) start)
    c.loop-after.invariant c.in_default-behind.ensures c.in_ok-rest-2.rest.now _ c.in_ok-rest-2.ensures

pub members-loop-after-smaller : goal.members-loop-after-smaller
members-loop-after-smaller t c =
    member_smaller (tables_of c.args.tables.now) c.args.room c.loop-after.rest.now c.in-Some-behind.after.now c.in_ok-item.after.now tt _ c.in-Some-behind.ensures c.in_ok-item.ensures

pub members-loop-after-preserved : goal.members-loop-after-preserved
members-loop-after-preserved t c =
    member_kept (tables_of c.args.tables.now) c.args.room c.loop-after.rest.now c.in-Some-behind.after.now c.in_ok-item.after.now tt
    c.loop-after.items.items c.add-in-Some-behind.new.list.items _ _ c.in-Some-behind.ensures c.in_ok-item.ensures
    c.in_ok-add-2.ensures.items c.loop-after.invariant

pub members-returns-in_err-item : goal.members-returns-in_err-item
members-returns-in_err-item t c =
    let p = err_from_is_err_and c.from_residual-in_err-item.result c.from_residual-in_err-item.ensures.1 in
    let start : c.add.new.list.items ≡ c.in_ok-first.first ∷ [] = c.in_ok-add.ensures.items ∙ ap (λ l. l ++ c.in_ok-first.first ∷ []) c.new-items.ensures.items in
    rw (p.1, p.2) (member_fails (tables_of c.args.tables.now) c.args.room c.args.tokens.now c.in_ok-first.rest.now _ c.in_default.ensures
    c.in_ok-first.ensures _ _ c.loop-after.rest.now (ap (map entry_tree) start) c.loop-after.invariant tt c.in-Some-behind.after.now
    c.in-Some-behind.ensures c.in_err-item.field-0.0 c.in_err-item.ensures)

pub members-returns-in_err-rest : goal.members-returns-in_err-rest
members-returns-in_err-rest t c =
    let p = err_from_is_err_and c.from_residual-in_err-rest.result c.from_residual-in_err-rest.ensures.1 in
    let start : c.add.new.list.items ≡ c.in_ok-first.first ∷ [] = c.in_ok-add.ensures.items ∙ ap (λ l. l ++ c.in_ok-first.first ∷ []) c.new-items.ensures.items in
    rw (p.1, p.2) (members_close (tables_of c.args.tables.now) c.args.room c.args.tokens.now c.in_ok-first.rest.now _ c.in_default.ensures
    c.in_ok-first.ensures _ _ c.loop-after.rest.now (ap (map entry_tree) start) c.loop-after.invariant c.in_default-behind.ensures
    c.in_err-rest.field-0.0 c.in_err-rest.ensures)

pub members-returns : goal.members-returns
members-returns t c =
    let start : c.add.new.list.items ≡ c.in_ok-first.first ∷ [] = c.in_ok-add.ensures.items ∙ ap (λ l. l ++ c.in_ok-first.first ∷ []) c.new-items.ensures.items in
    members_done (tables_of c.args.tables.now) c.args.room c.args.tokens.now c.in_ok-first.rest.now _ c.in_default.ensures
    c.in_ok-first.ensures _ _ c.loop-after.rest.now (ap (map entry_tree) start) c.loop-after.invariant c.in_default-behind.ensures
    c.in_ok-rest.rest.now _ c.in_ok-rest.ensures

pub behind_point-returns-in_err-args : goal.behind_point-returns-in_err-args
behind_point-returns-in_err-args t c =
    let p = err_from_is_err_and c.from_residual-in_err-args.result c.from_residual-in_err-args.ensures.1 in
    rw (p.1, p.2) (call_fails (tables_of c.args.tables.now) c.args.room c.args.tokens.now _ c.in-Some-method.rest.now c.in_default.ensures
    (rw c.in_default-2.is at c.in_ok-found.ensures) c.in-Some-method.ensures tt c.in-Some-behind.field-0.now c.in-Some-behind.ensures
    (omega arith) c.in_err-args.field-0.0 c.in_err-args.ensures)

pub behind_point-returns : goal.behind_point-returns
behind_point-returns t c =
    call_done (tables_of c.args.tables.now) c.args.room c.args.tokens.now _ c.in-Some-method.rest.now c.in_default.ensures
    (rw c.in_default-2.is at c.in_ok-found.ensures) c.in-Some-method.ensures tt c.in-Some-behind.field-0.now c.in-Some-behind.ensures
    (omega arith) _ c.in_ok-args.rest.now _ c.in_ok-args.ensures c.call.ensures

pub step-returns-in_err-inside : goal.step-returns-in_err-inside
step-returns-in_err-inside t c =
    let p = err_from_is_err_and c.from_residual-in_err-inside.result c.from_residual-in_err-inside.ensures.1 in
    rw (p.1, p.2) (inside_fails (tables_of c.args.tables.now) c.args.room c.args.tokens.now c.in-Some.at c.in-Some.rest.now
    c.in-Some.ensures (omega arith) c.in_err-inside.field-0.0 c.in_err-inside.ensures)

pub step-returns-in_err-rest-2 : goal.step-returns-in_err-rest-2
step-returns-in_err-rest-2 t c =
    let p = err_from_is_err_and c.from_residual-in_err-rest-2.result c.from_residual-in_err-rest-2.ensures.1 in
    rw (p.1, p.2) (bracket_fails (tables_of c.args.tables.now) c.args.room c.args.tokens.now c.in-Some.at c.in-Some.rest.now
    c.in-Some.ensures (omega arith) _ c.in_ok-inside.rest.now c.in_ok-inside.ensures c.in_err-rest-2.field-0.0 c.in_err-rest-2.ensures)

pub step-returns : goal.step-returns
step-returns t c =
    step_done (tables_of c.args.tables.now) c.args.room c.args.tokens.now c.in-Some.at c.in-Some.rest.now c.in-Some.ensures (omega arith) _
    c.in_ok-inside.rest.now c.in_ok-inside.ensures _ c.in_ok-rest-2.rest.now _ c.in_ok-rest-2.ensures c.index.ensures

pub unary-returns-in_err-of : goal.unary-returns-in_err-of
unary-returns-in_err-of t c =
    let p = err_from_is_err_and c.from_residual.result c.from_residual.ensures.1 in
    rw (p.1, p.2) (unary_fails (tables_of c.args.tables.now) c.args.room c.args.tokens.now _ c.in-Some.rest.now c.in-Some.ensures (omega arith) c.in_err-of.field-0.0 c.in_err-of.ensures)

pub unary-returns : goal.unary-returns
unary-returns t c =
    unary_done (tables_of c.args.tables.now) c.args.room c.args.tokens.now _ c.in-Some.rest.now c.in-Some.ensures (omega arith) _ _ c.in_ok-of.rest.now c.in_ok-of.ensures c.in_ok-tree.ensures

pub branches-returns-in_err-yes : goal.branches-returns-in_err-yes
branches-returns-in_err-yes t c =
    let p = err_from_is_err_and c.from_residual.result c.from_residual.ensures.1 in
    rw (p.1, p.2) (yes_fails (tables_of c.args.tables.now) c.args.room c.args.tokens.now _ c.in-Some.rest.now c.in-Some.ensures (omega arith) c.in_err-yes.field-0.0 c.in_err-yes.ensures)

pub branches-returns-in_err-rest : goal.branches-returns-in_err-rest
branches-returns-in_err-rest t c =
    let p = err_from_is_err_and c.from_residual-in_err-rest.result c.from_residual-in_err-rest.ensures.1 in
    rw (p.1, p.2) (colon_fails (tables_of c.args.tables.now) c.args.room c.args.tokens.now _ c.in-Some.rest.now c.in-Some.ensures
    (omega arith) _ c.in_ok-yes.rest.now c.in_ok-yes.ensures c.in_err-rest.field-0.0 c.in_err-rest.ensures)

pub branches-returns-in_err-no : goal.branches-returns-in_err-no
branches-returns-in_err-no t c =
    let p = err_from_is_err_and c.from_residual-in_err-no.result c.from_residual-in_err-no.ensures.1 in
    rw (p.1, p.2) (no_fails (tables_of c.args.tables.now) c.args.room c.args.tokens.now _ c.in-Some.rest.now c.in-Some.ensures (omega arith)
    _ c.in_ok-yes.rest.now c.in_ok-yes.ensures _ c.in_ok-rest.rest.now c.in_ok-rest.ensures c.in_err-no.field-0.0 c.in_err-no.ensures)

pub branches-returns : goal.branches-returns
branches-returns t c =
    branches_done (tables_of c.args.tables.now) c.args.room c.args.tokens.now _ c.in-Some.rest.now c.in-Some.ensures (omega arith) _
    c.in_ok-yes.rest.now c.in_ok-yes.ensures _ c.in_ok-rest.rest.now c.in_ok-rest.ensures _ _ c.in_ok-no.rest.now c.in_ok-no.ensures c.in_ok-tree.ensures
