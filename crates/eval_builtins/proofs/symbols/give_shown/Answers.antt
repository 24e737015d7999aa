use Rattle.eval_values.specs.RowNames.{row_ids, row_words}
use Rattle.std.proofs.Common.{arith, ◌+◌, length}
use Rattle.std.proofs.lemmas.Result.{err_from_is_err_and}
use Rattle.js_store.specs.State.{text}
use Rattle.js_store.specs.Rows.{wide_words, flat_words}
use Rattle.js_store.proofs.Laws.{flat_words_most}
use Rattle.eval_builtins.specs.Parts.{shown_symbol}
use Rattle.eval_values.proofs.Limited.{within_given}
use Rattle.eval_builtins.proofs.SymbolKeys.{shown_length, shown_stops}
use Rattle.eval_builtins.proofs.symbols.give_shown.Goals as goal

pub returns-clause-did : goal.returns-clause-did
returns-clause-did g c =
    let state = g.S.Strings.state in
    let number = g.S.Strings.number in
    let a = state c.args.store.now in
    let u = text a (number c.args.key) in
    let e = c.in_ok-r.ensures in
    within_given number a (state c.shown.new.store) {k = wide_words (length u) + flat_words (shown_symbol u)} a.limit row_ids
    (λ r. row_words r) (shown_symbol u) c.in_ok-r.r e.value c.requires.short e.uses.step e.uses.history (omega arith)
    (omega (arith, flat_words_most (shown_symbol u), shown_length u))

pub returns-in_err-r-clause-did : goal.returns-in_err-r-clause-did
returns-in_err-r-clause-did g c =
    let state = g.S.Strings.state in
    let number = g.S.Strings.number in
    let a = state c.args.store.now in
    let u = text a (number c.args.key) in
    let e = c.in_err-r.ensures in
    let p = err_from_is_err_and c.from_residual.result c.from_residual.ensures.1 in
    rw (p.1, p.2) (shown_stops number a (state c.shown.new.store) {k = wide_words (length u) + flat_words (shown_symbol u)} u
    c.in_err-r.field-0.0 c.requires.short e.throws e.uses.step e.uses.history e.uses.no_slots (omega arith)
    (omega (arith, flat_words_most (shown_symbol u), shown_length u)))
