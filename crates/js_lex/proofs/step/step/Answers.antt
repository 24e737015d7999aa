use Rattle.std.proofs.Common.{inr, sym}
use Rattle.std.specs.Str.{chars}
use Rattle.js_lex.proofs.Steps.{skip_gone, word_gone, mark_gone, end_element, open_element, bad_element, quote_begins, number_starts}
use Rattle.js_lex.proofs.step.step.Goals as goal

pub overflow_sub-result : goal.overflow_sub-result
overflow_sub-result c = (skip_gone c.args.text.now c.args.at (chars c.from-rest.result.now) (chars c.in-Skip.after.now) c.byte_len.result
    c.utf8.text c.from-rest.ensures c.in-Skip.ensures (sym c.byte_len.ensures)).fits

pub returns-in-Skip : goal.returns-in-Skip
returns-in-Skip c =
    let g = skip_gone c.args.text.now c.args.at (chars c.from-rest.result.now) (chars c.in-Skip.after.now) c.byte_len.result c.utf8.text
    c.from-rest.ensures c.in-Skip.ensures (sym c.byte_len.ensures) in
    (g.move, g.forward)

pub overflow_sub-result-in-Word : goal.overflow_sub-result-in-Word
overflow_sub-result-in-Word c = (word_gone c.args.text.now c.args.at (chars c.from-rest.result.now) (chars c.in-Word.after.now)
    c.byte_len-in-Word.result c.utf8.text c.from-rest.ensures c.in-Word.ensures (sym c.byte_len-in-Word.ensures)).fits

pub returns-in-Word : goal.returns-in-Word
returns-in-Word c =
    let g = word_gone c.args.text.now c.args.at (chars c.from-rest.result.now) (chars c.in-Word.after.now) c.byte_len-in-Word.result
    c.utf8.text c.from-rest.ensures c.in-Word.ensures (sym c.byte_len-in-Word.ensures) in
    (g.move, g.forward)

pub overflow_sub-result-in-Mark : goal.overflow_sub-result-in-Mark
overflow_sub-result-in-Mark c = (mark_gone c.args.text.now c.args.at (chars c.from-rest.result.now) (chars c.in-Mark.after.now)
    c.in-Mark.mark c.byte_len-in-Mark.result c.utf8.text c.from-rest.ensures c.in-Mark.ensures (sym c.byte_len-in-Mark.ensures)).fits

pub returns-in-Mark : goal.returns-in-Mark
returns-in-Mark c =
    let g = mark_gone c.args.text.now c.args.at (chars c.from-rest.result.now) (chars c.in-Mark.after.now) c.in-Mark.mark
    c.byte_len-in-Mark.result c.utf8.text c.from-rest.ensures c.in-Mark.ensures (sym c.byte_len-in-Mark.ensures) in
    (g.move, g.forward)

pub string-requires-clause-quote : goal.string-requires-clause-quote
string-requires-clause-quote c = quote_begins c.args.text.now c.args.at (chars c.from-rest.result.now) c.utf8.text c.from-rest.ensures c.in-Quote.ensures

pub number-requires-clause-number : goal.number-requires-clause-number
number-requires-clause-number c = number_starts c.args.text.now c.args.at (chars c.from-rest.result.now) c.utf8.text c.from-rest.ensures c.in-Number.ensures

pub returns-in-End : goal.returns-in-End
returns-in-End c = end_element c.args.text.now c.args.at (chars c.from-rest.result.now) c.from-rest.ensures c.in-End.ensures

pub returns-in-Open : goal.returns-in-Open
returns-in-Open c = inr (open_element c.args.text.now c.args.at (chars c.from-rest.result.now) c.from-rest.ensures c.in-Open.ensures)

pub returns-in-Bad : goal.returns-in-Bad
returns-in-Bad c = inr (bad_element c.args.text.now c.args.at (chars c.from-rest.result.now) c.from-rest.ensures c.in-Bad.ensures)
