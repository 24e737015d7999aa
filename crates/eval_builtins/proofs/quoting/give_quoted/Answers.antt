use Rattle.eval_values.specs.RowNames.{row_ids, row_words}
use Rattle.std.proofs.Common.{arith, ◌+◌, length}
use Rattle.std.proofs.lemmas.Result.{err_from_is_err_and}
use Rattle.js_store.specs.State.{text}
use Rattle.js_store.proofs.Laws.{settle_words_most}
use Rattle.js_texts.specs.Use.{settling, made_words}
use Rattle.js_texts.proofs.Lengths.{made_ids_most}
use Rattle.js_json.specs.Quoting.{quoted}
use Rattle.eval_values.proofs.Limited.{within_given, within_ends}
use Rattle.eval_values.proofs.Needs.{made_most}
use Rattle.eval_builtins.proofs.Quoted.{quoted_most}
use Rattle.eval_builtins.proofs.quoting.give_quoted.Goals as goal

pub returns-clause-did : goal.returns-clause-did
returns-clause-did g c =
    let state = g.S.Strings.state in
    let number = g.S.Strings.number in
    let a = state c.args.store.now in
    let u = text a (number c.args.s) in
    let e = c.in_ok-r.ensures in
    within_given number a (state c.quote.new.store) {k = settling a (number c.args.s) + made_words a.limit (quoted u)} a.limit row_ids
    (λ r. row_words (length u + r)) (quoted u) c.in_ok-r.r e.value e.throws e.uses.step e.uses.history
    (omega (arith, made_ids_most a.limit (quoted u))) (omega (
      arith,
      settle_words_most (a.settled (number c.args.s)) (length u),
      made_most
          a.limit (quoted u),
    ))

pub returns-in_err-r-clause-did : goal.returns-in_err-r-clause-did
returns-in_err-r-clause-did g c =
    let state = g.S.Strings.state in
    let number = g.S.Strings.number in
    let a = state c.args.store.now in
    let u = text a (number c.args.s) in
    let e = c.in_err-r.ensures in
    let p = err_from_is_err_and c.from_residual.result c.from_residual.ensures.1 in
    rw (p.1, p.2) (within_ends number a (state c.quote.new.store) {k = settling a (number c.args.s) + made_words a.limit (quoted u)} a.limit
    row_ids (λ r. row_words (length u + r)) (quoted u) c.in_err-r.field-0.0 e.throws e.uses.step e.uses.history e.uses.no_slots
    (omega (arith, made_ids_most a.limit (quoted u))) (omega (
      arith,
      settle_words_most (a.settled (number c.args.s)) (length u),
      made_most
          a.limit (quoted u),
    )) (omega (arith, settle_words_most (a.settled (number c.args.s)) (length u), made_most a.limit (quoted u), quoted_most u)))
