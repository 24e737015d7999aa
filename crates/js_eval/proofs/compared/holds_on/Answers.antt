use Rattle.std.proofs.Common.{not}
use Rattle.std.proofs.lemmas.Result.{err_from_is_err_and}
use Rattle.js_item.specs.Seen.{seen}
use Rattle.eval_values.specs.Comparing.{same_out}
use Rattle.js_eval.proofs.Sides.{same_told, truth_untold}
use Rattle.js_eval.proofs.compared.holds_on.Goals as goal

pub returns-in-Same-clause-did : goal.returns-in-Same-clause-did
returns-in-Same-clause-did g c =
    let state = g.S.Strings.state in
    let number = g.S.Strings.number in
    let a = state c.args.store.now in
    rw c.in-Same.is (same_told number a (state c.is_same.new.store) c.is_same.result
    (same_out c.args.at (seen a number c.args.left.now) (seen a number c.args.right)) c.is_same.ensures.did)

pub returns-in_err-same-in-NotSame-clause-did : goal.returns-in_err-same-in-NotSame-clause-did
returns-in_err-same-in-NotSame-clause-did g c =
    let state = g.S.Strings.state in
    let number = g.S.Strings.number in
    let a = state c.args.store.now in
    let p = err_from_is_err_and c.from_residual.result c.from_residual.ensures.1 in
    rw (p.1, p.2, c.in-NotSame.is) (truth_untold number a (state c.is_same-in-NotSame.new.store) not
    (same_out c.args.at (seen a number c.args.left.now) (seen a number c.args.right)) c.in_err-same-in-NotSame.field-0.0 c.in_err-same-in-NotSame.ensures.did)
