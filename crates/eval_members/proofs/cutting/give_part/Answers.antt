use Rattle.eval_values.specs.RowNames.{row_ids, row_words}
use Rattle.std.proofs.Common.{arith, ◌+◌}
use Rattle.std.proofs.lemmas.Result.{err_from_is_err_and}
use Rattle.js_store.specs.State.{text}
use Rattle.eval_members.specs.Methods.{part_of}
use Rattle.eval_values.proofs.Limited.{within_stops}
use Rattle.eval_members.proofs.cutting.give_part.Goals as goal

pub returns-in_err-r-clause-did : goal.returns-in_err-r-clause-did
returns-in_err-r-clause-did g c = λ t k.
    let state = g.S.Strings.state in
    let number = g.S.Strings.number in
    let a = state c.args.store.now in
    let u = text a (number c.args.s) in
    let e = c.in_err-r.ensures in
    let p = err_from_is_err_and c.from_residual.result c.from_residual.ensures.1 in
    rw (p.1, p.2) (within_stops number a (state c.part.new.store) a.limit row_ids (λ r. row_words (t + r))
    (part_of c.args.cut u c.args.start c.args.end) c.in_err-r.field-0.0 e.throws e.uses.step e.uses.history e.uses.no_slots (omega arith)
    (omega arith) (omega arith))
