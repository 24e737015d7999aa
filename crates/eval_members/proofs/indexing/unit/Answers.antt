use Rattle.eval_values.specs.RowNames.{row_ids, row_words}
use Rattle.std.proofs.Common.{arith, length, ◌+◌}
use Rattle.std.proofs.lemmas.Result.{err_from_is_err_and}
use Rattle.js_store.specs.State.{text}
use Rattle.eval_values.specs.Conversions.{string_units}
use Rattle.eval_values.proofs.Limited.{row_stops}
use Rattle.eval_members.specs.Places.{maybe_text}
use Rattle.eval_members.specs.Indexing.{unit_at}
use Rattle.eval_members.proofs.indexing.unit.Goals as goal

pub returns-in_err-r-in-Int-clause-did : goal.returns-in_err-r-in-Int-clause-did
returns-in_err-r-in-Int-clause-did g c =
    let state = g.S.Strings.state in
    let number = g.S.Strings.number in
    let a = state c.args.store.now in
    let u = text a (number c.args.s) in
    let w = maybe_text (unit_at u c.args.index) in
    let e = c.in_err-r-in-Int.ensures in
    let p = err_from_is_err_and c.from_residual.result c.from_residual.ensures.1 in
    rw (p.1, p.2) (row_stops number a (state c.at.new.store) row_ids (row_words (length u + string_units w)) w c.in_err-r-in-Int.field-0.0
    e.throws e.uses.step e.uses.history e.uses.no_slots (omega arith) (omega arith))
