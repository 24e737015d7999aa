use Rattle.std.proofs.lemmas.Result.{err_from_is_err_and}
use Rattle.js_store.proofs.Laws.{grows_trans}
use Rattle.js_item.specs.Seen.{seen}
use Rattle.js_eval.specs.Expression.{operated}
use Rattle.js_eval.proofs.Statements.{test_holds, test_stops}
use Rattle.js_eval.proofs.compared.is_true_of.Goals as goal

pub returns-in_err-value-clause-did : goal.returns-in_err-value-clause-did
returns-in_err-value-clause-did g c =
    let state = g.S.Strings.state in
    let number = g.S.Strings.number in
    let a = state c.args.store.now in
    let p = err_from_is_err_and c.from_residual.result c.from_residual.ensures.1 in
    rw (p.1, p.2) (test_stops number a (state c.apply.new.store) c.in_err-value.field-0.0
    (operated c.args.op c.args.at a.limit (seen a number c.args.left.now) (seen a number c.args.right)) c.in_err-value.ensures.did)

pub returns-clause-grows : goal.returns-clause-grows
returns-clause-grows g c = grows_trans c.in_ok-value.ensures.grows c.truth.ensures.uses.step.grows

pub returns-clause-did : goal.returns-clause-did
returns-clause-did g c =
    let state = g.S.Strings.state in
    let number = g.S.Strings.number in
    let a = state c.args.store.now in
    let t = c.truth.ensures in
    test_holds number a (state c.apply.new.store) (state c.truth.new.store) c.in_ok-value.value c.truth.result
    (operated c.args.op c.args.at a.limit (seen a number c.args.left.now) (seen a number c.args.right)) t.value t.uses.step t.uses.history c.in_ok-value.ensures.did
