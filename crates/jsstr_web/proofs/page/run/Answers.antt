use Rattle.eval_tree.specs.Tree.{tree_of}
use Rattle.jsstr_web.proofs.Runs.{is_run}
use Rattle.jsstr_web.proofs.page.run.Goals as goal

pub returns-in-Ok : goal.returns-in-Ok
returns-in-Ok c = is_run c.args.options.now (tree_of c.args.script) (tree_of c.first_statements-script.result) c.size_of-size.result c.limit_of.result c.in-Ok.here
    c.args.out.now c.tell.new.out c.args.words.now c.tell.new.words c.statement_count-statements.result c.tell.result
    c.size_of-size.ensures c.limit_of.ensures c.first_statements-script.ensures c.statement_count-statements.ensures c.in-Ok.ensures c.tell.ensures.lines c.tell.ensures.end c.tell.ensures.words
