use Rattle.eval_values.specs.RowNames.{parts_ids, parts_words}
use Rattle.std.proofs.Common.{arith, ◌+◌, ◌*◌, length}
use Rattle.std.proofs.lemmas.Result.{err_from_is_err_and}
use Rattle.js_json.specs.Quoting.{list_text}
use Rattle.js_texts.specs.Texts.{known_texts, settle_most}
use Rattle.js_texts.specs.Use.{made_words}
use Rattle.js_texts.proofs.Lengths.{made_ids_most}
use Rattle.eval_values.specs.Conversions.{list_units}
use Rattle.eval_values.proofs.Limited.{within_given, within_ends}
use Rattle.eval_values.proofs.Needs.{some_most, settle_few, made_most}
use Rattle.eval_builtins.proofs.Quoted.{list_most}
use Rattle.eval_builtins.proofs.quoting.give_list.Goals as goal

pub returns-clause-did : goal.returns-clause-did
returns-clause-did g c =
    let state = g.S.Strings.state in
    let number = g.S.Strings.number in
    let a = state c.args.store.now in
    let us = known_texts a number c.args.list.now in
    let e = c.in_ok-r.ensures in
    within_given number a (state c.stringify_list.new.store) {k = 2 * settle_most a number c.args.list.now + made_words a.limit
    (list_text us)} a.limit (parts_ids (length us)) (λ r. parts_words (length us) (list_units us + r)) (list_text us) c.in_ok-r.r e.value
    e.throws e.uses.step e.uses.history (omega (arith, some_most (length us), made_ids_most a.limit (list_text us)))
    (omega (arith, some_most (length us), made_most a.limit (list_text us), list_most us, settle_few a number c.args.list.now))

pub returns-in_err-r-clause-did : goal.returns-in_err-r-clause-did
returns-in_err-r-clause-did g c =
    let state = g.S.Strings.state in
    let number = g.S.Strings.number in
    let a = state c.args.store.now in
    let us = known_texts a number c.args.list.now in
    let e = c.in_err-r.ensures in
    let p = err_from_is_err_and c.from_residual.result c.from_residual.ensures.1 in
    rw (p.1, p.2) (within_ends number a (state c.stringify_list.new.store) {k = 2 * settle_most a number c.args.list.now + made_words
    a.limit (list_text us)} a.limit (parts_ids (length us)) (λ r. parts_words (length us) (list_units us + r)) (list_text us)
    c.in_err-r.field-0.0 e.throws e.uses.step e.uses.history e.uses.no_slots
    (omega (arith, some_most (length us), made_ids_most a.limit (list_text us)))
    (omega (arith, some_most (length us), made_most a.limit (list_text us), list_most us, settle_few a number c.args.list.now))
    (omega (arith, some_most (length us), made_most a.limit (list_text us), list_most us, settle_few a number c.args.list.now)))
