use Rattle.eval_values.specs.RowNames.{pad_ids, pad_words}
use Rattle.std.proofs.Common.{arith, ◌+◌, length}
use Rattle.std.proofs.lemmas.Result.{err_from_is_err_and}
use Rattle.js_store.specs.State.{text}
use Rattle.eval_members.specs.Methods.{padded_of}
use Rattle.eval_values.proofs.Limited.{within_stops}
use Rattle.eval_members.proofs.building.pad_with.Goals as goal

pub returns-in_err-r-clause-did : goal.returns-in_err-r-clause-did
returns-in_err-r-clause-did g c =
    let number = g.S.Strings.number in
    let a = g.S.Strings.state c.args.store.now in
    let b = g.S.Strings.state c.padded_with.new.store in
    let u = text a (number c.args.s) in
    let w = text a (number c.args.w) in
    let e = c.in_err-r.ensures in
    let p = err_from_is_err_and c.from_residual.result c.from_residual.ensures.1 in
    rw (p.1, p.2) (within_stops number a b a.limit pad_ids (λ k. pad_words (length u + length w)) (padded_of c.args.pad u c.args.max w)
    c.in_err-r.field-0.0 e.throws e.uses.step e.uses.history e.uses.no_slots (omega arith) (omega arith) (omega arith))
