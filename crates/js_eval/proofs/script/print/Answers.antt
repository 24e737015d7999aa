use Rattle.std.proofs.lemmas.Result.{err_from_is_err_and}
use Rattle.js_store.proofs.Laws.{grows_trans}
use Rattle.eval_tree.specs.Tree.{exprs_tree}
use Rattle.js_eval.proofs.Stays.{context_fine_still}
use Rattle.js_eval.proofs.Printing.{print_went, print_halt}
use Rattle.js_eval.proofs.script.print.Goals as goal

pub returns-in_err-values-clause-went : goal.returns-in_err-values-clause-went
returns-in_err-values-clause-went g c =
    let state = g.S.Strings.state in
    let p = err_from_is_err_and c.from_residual.result c.from_residual.ensures.1 in
    let e = c.in_err-values.ensures in
    rw (p.1, p.2) (print_halt g.S.Strings.number (state c.args.store.now) (state c.exprs.new.store) c.args.lines.now
    (exprs_tree c.args.args.now) c.args.context.now e.grows c.requires c.in_err-values.field-0.0 e.did)

pub returns-clause-context : goal.returns-clause-context
returns-clause-context g c =
    context_fine_still (g.S.Strings.state c.exprs.new.store) (g.S.Strings.state c.print_values-result.new.store) g.S.Strings.number
    c.print_values-result.ensures.grows c.args.context.now c.in_ok-values.ensures.context

pub returns-clause-went : goal.returns-clause-went
returns-clause-went g c =
    let state = g.S.Strings.state in
    let d = c.deref.ensures.value in
    let e = c.in_ok-values.ensures in
    let w = c.print_values-result.ensures.went in
    print_went g.S.Strings.number (state c.args.store.now) (state c.exprs.new.store) c.args.lines.now (exprs_tree c.args.args.now)
    c.args.context.now e.grows c.requires (state c.print_values-result.new.store) c.print_values-result.new.lines c.in_ok-values.values
    c.print_values-result.result (grows_trans e.grows c.print_values-result.ensures.grows) e.did (rw d at w)
