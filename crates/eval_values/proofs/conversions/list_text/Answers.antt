use Rattle.std.proofs.lemmas.Result.{err_from_is_err_and}
use Rattle.js_texts.specs.Texts.{known_texts, settle_most}
use Rattle.eval_values.proofs.Needs.{settle_few}
use Rattle.eval_values.proofs.ListTexts.{list_given, list_stops}
use Rattle.eval_values.proofs.conversions.list_text.Goals as goal

pub returns-clause-did : goal.returns-clause-did
returns-clause-did g c =
    let number = g.S.Strings.number in
    let a = g.S.Strings.state c.args.store.now in
    let e = c.in_ok-joined_by_commas.ensures in
    list_given a.limit (settle_most a number c.args.list.now) (known_texts a number c.args.list.now) e.uses.history
    (settle_few a number c.args.list.now) number c.in_ok-joined_by_commas.field-0 e.value e.throws e.uses.step

pub returns-in_err-joined_by_commas-clause-did : goal.returns-in_err-joined_by_commas-clause-did
returns-in_err-joined_by_commas-clause-did g c =
    let number = g.S.Strings.number in
    let a = g.S.Strings.state c.args.store.now in
    let e = c.in_err-joined_by_commas.ensures in
    let p = err_from_is_err_and c.from_residual.result c.from_residual.ensures.1 in
    rw (p.1, p.2) (list_stops a.limit (settle_most a number c.args.list.now) (known_texts a number c.args.list.now) e.uses.history
    (settle_few a number c.args.list.now) number c.in_err-joined_by_commas.field-0.0 e.throws e.uses.step e.uses.no_slots)
