use Rattle.std.proofs.Common.{option_map, refl}
use Rattle.std.proofs.lemmas.Result.{err_from_is_err_and}
use Rattle.eval_tree.specs.Tree.{tree_of}
use Rattle.run_sources.specs.Answers.{source_for, sources_for}
use Rattle.run_sources.proofs.Stages.{prelude_refused, scripts_refused}
use Rattle.run_sources.proofs.parsing.parse_sources.Goals as goal

pub returns-in_err-prelude-clause-refused : goal.returns-in_err-prelude-clause-refused
returns-in_err-prelude-clause-refused c =
    let p = err_from_is_err_and c.from_residual.result c.from_residual.ensures.1 in
    let sources = c.args.sources.now in
    rw (p.1, p.2) (prelude_refused (sources_for sources) (option_map source_for sources.prelude) c.in_err-prelude.field-0.0 refl c.in_err-prelude.ensures.refused)

pub returns-in_err-scripts-clause-refused : goal.returns-in_err-scripts-clause-refused
returns-in_err-scripts-clause-refused c =
    let p = err_from_is_err_and c.from_residual-in_err-scripts.result c.from_residual-in_err-scripts.ensures.1 in
    rw (p.1, p.2) (scripts_refused (sources_for c.args.sources.now) (option_map tree_of c.in_ok-prelude.prelude) c.in_err-scripts.field-0.0 c.in_ok-prelude.ensures.spells
    (rw (c.deref.ensures.value) at c.in_err-scripts.ensures.refused))
