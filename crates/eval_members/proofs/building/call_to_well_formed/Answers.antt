use Rattle.eval_values.specs.RowNames.{row_ids, row_words}
use Rattle.std.proofs.Common.{arith, ◌+◌}
use Rattle.std.proofs.lemmas.Result.{err_from_is_err_and}
use Rattle.js_units.specs.Text.{well}
use Rattle.js_store.specs.State.{text}
use Rattle.js_store.proofs.Laws.{flat_words_most}
use Rattle.js_methods.proofs.WellFormed.{well_length}
use Rattle.eval_values.proofs.Limited.{within_given, within_ends}
use Rattle.eval_members.proofs.building.call_to_well_formed.Goals as goal

pub returns-clause-did : goal.returns-clause-did
returns-clause-did g c = λ t k.
    let state = g.S.Strings.state in
    let number = g.S.Strings.number in
    let a = state c.args.store.now in
    let u = text a (number c.args.s) in
    let e = c.in_ok-r.ensures in
    within_given number a (state c.to_well_formed.new.store) a.limit row_ids (λ r. row_words (t + r)) (well u) c.in_ok-r.r e.value e.throws
    e.uses.step e.uses.history (omega arith) (omega (arith, k, flat_words_most (well u)))

pub returns-in_err-r-clause-did : goal.returns-in_err-r-clause-did
returns-in_err-r-clause-did g c = λ t k.
    let state = g.S.Strings.state in
    let number = g.S.Strings.number in
    let a = state c.args.store.now in
    let u = text a (number c.args.s) in
    let e = c.in_err-r.ensures in
    let p = err_from_is_err_and c.from_residual.result c.from_residual.ensures.1 in
    rw (p.1, p.2) (within_ends number a (state c.to_well_formed.new.store) a.limit row_ids (λ r. row_words (t + r)) (well u)
    c.in_err-r.field-0.0 e.throws e.uses.step e.uses.history e.uses.no_slots (omega arith) (omega (arith, k, flat_words_most (well u)))
    (omega (arith, k, flat_words_most (well u), well_length u)))
