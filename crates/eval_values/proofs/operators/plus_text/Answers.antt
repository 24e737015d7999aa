use Rattle.js_store.specs.State.{text}
use Rattle.eval_values.proofs.Sums.{texts_sum, number_sum}
use Rattle.eval_values.proofs.Settled.{on_ok_always}
use Rattle.eval_values.proofs.operators.plus_text.Goals as goal

pub returns-in-Text-clause-left_read : goal.returns-in-Text-clause-left_read
returns-in-Text-clause-left_read g c =
    rw c.requires.is (on_ok_always c.join.result (Unit {0}) tt)

pub returns-in-Text-clause-right_read : goal.returns-in-Text-clause-right_read
returns-in-Text-clause-right_read g c =
    rw c.in-Text.is (on_ok_always c.join.result (Unit {0}) tt)

pub returns-in-Text-clause-did : goal.returns-in-Text-clause-did
returns-in-Text-clause-did g c =
    let state = g.S.Strings.state in
    let number = g.S.Strings.number in
    let a = state c.args.store.now in
    rw (c.requires.is, c.in-Text.is)
    (texts_sum number a (state c.join.new.store) c.args.at (text a (number c.args.s)) (text a (number c.in-Text.other)) c.join.result c.join.ensures.did)

pub returns-in-Number-clause-left_read : goal.returns-in-Number-clause-left_read
returns-in-Number-clause-left_read g c =
    rw c.requires.is (on_ok_always c.plus_number.result (Unit {0}) tt)

pub returns-in-Number-clause-right_read : goal.returns-in-Number-clause-right_read
returns-in-Number-clause-right_read g c =
    rw c.in-Number.is (on_ok_always c.plus_number.result (Unit {0}) tt)

pub returns-in-Number-clause-did : goal.returns-in-Number-clause-did
returns-in-Number-clause-did g c =
    let state = g.S.Strings.state in
    let number = g.S.Strings.number in
    let a = state c.args.store.now in
    rw (c.requires.is, c.in-Number.is)
    (number_sum number a (state c.plus_number.new.store) c.args.at (text a (number c.args.s)) c.in-Number.n c.plus_number.result c.plus_number.ensures.did)
