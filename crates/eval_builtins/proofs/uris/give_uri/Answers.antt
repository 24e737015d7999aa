use Rattle.std.proofs.Common.{arith, ◌+◌}
use Rattle.js_store.specs.State.{text}
use Rattle.js_texts.specs.Use.{settling}
use Rattle.js_uri.specs.Answers.{outcome_words}
use Rattle.eval_builtins.specs.UriFunctions.{outcome_of}
use Rattle.eval_builtins.proofs.UriCalls.{uri_given, uri_stops}
use Rattle.eval_builtins.proofs.uris.give_uri.Goals as goal

pub returns-in-Ok-clause-did : goal.returns-in-Ok-clause-did
returns-in-Ok-clause-did g c = λ t l.
    let state = g.S.Strings.state in
    let number = g.S.Strings.number in
    let a = state c.args.store.now in
    let o = outcome_of c.args.which (text a (number c.args.s)) in
    let e = c.in-Ok.ensures in
    uri_given number a (state c.answer.new.store) a.limit t o c.in-Ok.r {k = settling a (number c.args.s) + outcome_words a.limit o} e.value e.throws e.uses.step e.uses.history (omega (arith, l))

pub returns-in-Err-clause-did : goal.returns-in-Err-clause-did
returns-in-Err-clause-did g c = λ t l.
    let state = g.S.Strings.state in
    let number = g.S.Strings.number in
    let a = state c.args.store.now in
    let o = outcome_of c.args.which (text a (number c.args.s)) in
    let e = c.in-Err.ensures in
    rw c.stop.ensures (uri_stops number a (state c.answer.new.store) a.limit t o c.in-Err.fault {k = settling a (number c.args.s) +
    outcome_words a.limit o} e.throws e.uses.step e.uses.history e.uses.no_slots (omega (arith, l)))
