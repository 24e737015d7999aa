use Rattle.std.proofs.Common.{subst, map, []}
use Rattle.parse_syntax.specs.Tables.{tables_of}
use Rattle.parse_syntax.specs.Reader.{read_whole}
use Rattle.eval_tree.specs.Tree.{stmt_tree}
use Rattle.parse_syntax.specs.Reading.{read_statements}
use Rattle.parse_statements.specs.Gives.{GivesAnswer}
use Rattle.parse_statements.proofs.Whole.{is_spelled, is_found, is_refused}
use Rattle.parse_statements.proofs.statement.statements.Goals as goal

pub returns-clause-spells : goal.returns-clause-spells
returns-clause-spells c = is_spelled _ (tables_of c.args.tables.now) c.args.prints _ c.args.tokens.now c.whole.result
    (subst (λ n. GivesAnswer (λ v. map stmt_tree v.items) (λ _. []) c.whole.result
    (read_whole (read_statements (tables_of c.args.tables.now) c.args.prints n) c.args.tokens.now)) c.limit.ensures c.whole.ensures)

pub returns-clause-found : goal.returns-clause-found
returns-clause-found c = is_found _ (tables_of c.args.tables.now) c.args.prints _ c.args.tokens.now c.whole.result
    (subst (λ n. GivesAnswer (λ v. map stmt_tree v.items) (λ _. []) c.whole.result
    (read_whole (read_statements (tables_of c.args.tables.now) c.args.prints n) c.args.tokens.now)) c.limit.ensures c.whole.ensures)

pub returns-clause-refused : goal.returns-clause-refused
returns-clause-refused c = is_refused _ (tables_of c.args.tables.now) c.args.prints _ c.args.tokens.now c.whole.result
    (subst (λ n. GivesAnswer (λ v. map stmt_tree v.items) (λ _. []) c.whole.result
    (read_whole (read_statements (tables_of c.args.tables.now) c.args.prints n) c.args.tokens.now)) c.limit.ensures c.whole.ensures)
