use Rattle.std.proofs.Common.{rules, ◌≡◌, ◌∙◌, [], ◌∷◌, ◌++◌, ap}
use Rattle.std.proofs.lemmas.Result.{err_from_is_err_and}
use Rattle.parse_syntax.specs.Tables.{tables_of}
use Rattle.parse_statements.proofs.Lists.{statements_fail, statement_smaller, statements_kept, statements_done, other_smaller, others_kept, if_arm_fails, if_rest_fails, if_done}
use Rattle.parse_statements.proofs.statement.+statements.Goals as goal

pub if_statement-returns-in_err-arm : goal.if_statement-returns-in_err-arm
if_statement-returns-in_err-arm t c =
    let p = err_from_is_err_and c.from_residual-in_err-arm.result c.from_residual-in_err-arm.ensures.1 in
    let start : c.add.new.list.items ≡ c.in_ok-first.first ∷ [] = c.in_ok-add.ensures.items ∙ ap (λ l. l ++ c.in_ok-first.first ∷ []) c.new-arms.ensures.items in
    rw (p.1, p.2) (if_arm_fails (tables_of c.args.tables.now) c.args.prints c.args.room c.requires c.args.tokens.now c.in_ok-first.rest.now
    c.loop-after.rest.now c.in_ok-first.first c.add.new.list.items c.loop-after.arms.items c.in_ok-first.ensures start
    c.loop-after.invariant c.in-Some.after.now c.in-Some.ensures.1 c.in-Some.ensures.0 c.in_err-arm.field-0.0 c.in_err-arm.ensures)

pub if_statement-loop-after-smaller : goal.if_statement-loop-after-smaller
if_statement-loop-after-smaller t c = other_smaller (tables_of c.args.tables.now) c.args.prints c.args.room c.requires c.loop-after.rest.now
    c.in-Some.after.now c.in_ok-arm.after.now _ c.in-Some.ensures.0 c.in_ok-arm.ensures

pub if_statement-loop-after-preserved : goal.if_statement-loop-after-preserved
if_statement-loop-after-preserved t c =
    others_kept (tables_of c.args.tables.now) c.args.prints c.args.room c.requires c.loop-after.rest.now c.in-Some.after.now
    c.in_ok-arm.after.now c.loop-after.arms.items c.add-in-Some.new.list.items _ _ c.in-Some.ensures.1 c.in-Some.ensures.0
    c.in_ok-arm.ensures c.in_ok-add-2.ensures.items c.loop-after.invariant

pub if_statement-returns-in_err-last : goal.if_statement-returns-in_err-last
if_statement-returns-in_err-last t c =
    let p = err_from_is_err_and c.from_residual-in_err-last.result c.from_residual-in_err-last.ensures.1 in
    let start : c.add.new.list.items ≡ c.in_ok-first.first ∷ [] = c.in_ok-add.ensures.items ∙ ap (λ l. l ++ c.in_ok-first.first ∷ []) c.new-arms.ensures.items in
    rw (p.1, p.2) (if_rest_fails (tables_of c.args.tables.now) c.args.prints c.args.room c.requires c.args.tokens.now c.in_ok-first.rest.now
    c.loop-after.rest.now c.in_ok-first.first c.add.new.list.items c.loop-after.arms.items c.in_ok-first.ensures start
    c.loop-after.invariant c.in_default.ensures c.in_err-last.field-0.0 c.in_err-last.ensures)

pub if_statement-returns : goal.if_statement-returns
if_statement-returns t c =
    let start : c.add.new.list.items ≡ c.in_ok-first.first ∷ [] = c.in_ok-add.ensures.items ∙ ap (λ l. l ++ c.in_ok-first.first ∷ []) c.new-arms.ensures.items in
    if_done (tables_of c.args.tables.now) c.args.prints c.args.room c.requires c.args.tokens.now c.in_ok-first.rest.now
    c.loop-after.rest.now c.in_ok-first.first c.add.new.list.items c.loop-after.arms.items c.in_ok-first.ensures start
    c.loop-after.invariant c.in_default.ensures c.in_ok-last.rest.now _ _ c.in_ok-last.ensures c.conditions.ensures

pub list-returns-in_err-item : goal.list-returns-in_err-item
list-returns-in_err-item t c =
    let p = err_from_is_err_and c.from_residual.result c.from_residual.ensures.1 in
    rw (p.1, p.2) (statements_fail (tables_of c.args.tables.now) c.args.prints c.args.room c.args.tokens.now c.loop-alloc.rest.now
    c.loop-alloc.items.items (search rules) c.loop-alloc.invariant c.in_err-item.field-0.0 c.in_err-item.ensures)

pub list-loop-alloc-smaller : goal.list-loop-alloc-smaller
list-loop-alloc-smaller t c = statement_smaller (tables_of c.args.tables.now) c.args.prints c.args.room c.loop-alloc.rest.now c.in_ok-item.after.now _ c.in_ok-item.ensures

pub list-loop-alloc-preserved : goal.list-loop-alloc-preserved
list-loop-alloc-preserved t c =
    statements_kept (tables_of c.args.tables.now) c.args.prints c.args.room c.args.tokens.now c.in_ok-item.after.now c.loop-alloc.rest.now
    c.loop-alloc.items.items c.push.new.self.items _ (search rules) c.in_ok-item.ensures c.in_ok-push.ensures.items c.loop-alloc.invariant

pub list-returns : goal.list-returns
list-returns t c = statements_done (tables_of c.args.tables.now) c.args.prints c.args.room c.args.tokens.now c.loop-alloc.rest.now c.loop-alloc.items.items (search rules) c.loop-alloc.invariant
