use Rattle.std.proofs.lemmas.Result.{err_from_is_err_and}
use Rattle.parse_syntax.specs.Tables.{tables_of}
use Rattle.parse_statements.proofs.Lists.{init_fails, init_done}
use Rattle.parse_statements.proofs.statement.init.Goals as goal

pub returns-in_err-value-in-Some : goal.returns-in_err-value-in-Some
returns-in_err-value-in-Some c =
    let p = err_from_is_err_and c.from_residual.result c.from_residual.ensures.1 in
    rw (p.1, p.2) (init_fails (tables_of c.args.tables.now) c.args.room c.args.tokens.now c.in-Some.rest.now c.in-Some.ensures c.in_err-value-in-Some.field-0.0 c.in_err-value-in-Some.ensures)

pub returns-in_ok-value-in-Some : goal.returns-in_ok-value-in-Some
returns-in_ok-value-in-Some c = init_done (tables_of c.args.tables.now) c.args.room c.args.tokens.now c.in-Some.rest.now
    c.in_ok-value-in-Some.rest.now c.in_ok-value-in-Some.value c.in-Some.ensures c.in_ok-value-in-Some.ensures
