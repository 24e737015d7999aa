use Rattle.std.proofs.Common.{arith, ◌+◌, length}
use Rattle.std.proofs.lemmas.Result.{err_from_is_err_and}
use Rattle.js_store.proofs.Laws.{step_within}
use Rattle.js_texts.specs.Texts.{known_texts, settle_most}
use Rattle.eval_values.specs.Conversions.{comma_joined}
use Rattle.eval_members.proofs.Made.{parts_given, parts_stops}
use Rattle.eval_members.proofs.Elements.{commas_fit}
use Rattle.eval_members.proofs.splitting.join_with_commas.Goals as goal

pub returns-clause-did : goal.returns-clause-did
returns-clause-did g c = λ t k.
    let number = g.S.Strings.number in
    let a = g.S.Strings.state c.args.store.now in
    let rs = c.args.list.now in
    let e = c.in_ok-r.ensures in
    parts_given a.limit t (length (known_texts a number rs)) 2 (settle_most a number rs + 1) (comma_joined (known_texts a number rs))
    e.uses.history (omega arith) (commas_fit number a rs t k) number c.in_ok-r.r e.value e.throws (step_within e.uses.step (omega arith) (omega arith))

pub returns-in_err-r-clause-did : goal.returns-in_err-r-clause-did
returns-in_err-r-clause-did g c = λ t k.
    let number = g.S.Strings.number in
    let a = g.S.Strings.state c.args.store.now in
    let rs = c.args.list.now in
    let e = c.in_err-r.ensures in
    let p = err_from_is_err_and c.from_residual.result c.from_residual.ensures.1 in
    rw (p.1, p.2) (parts_stops a.limit t (length (known_texts a number rs)) 2 (settle_most a number rs + 1)
    (comma_joined (known_texts a number rs)) e.uses.history (omega arith) (commas_fit number a rs t k) number c.in_err-r.field-0.0 e.throws
    (step_within e.uses.step (omega arith) (omega arith)) e.uses.no_slots)
