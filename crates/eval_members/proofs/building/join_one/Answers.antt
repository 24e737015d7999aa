use Rattle.std.proofs.lemmas.Result.{err_from_is_err_and}
use Rattle.eval_members.proofs.Calls.{join_does, join_stops}
use Rattle.eval_values.specs.Settled.{ElementsSettled}
use Rattle.eval_values.proofs.Settled.{elements_read, on_ok_always}
use Rattle.eval_members.proofs.building.join_one.Goals as goal

pub returns-in_err-w-clause-did : goal.returns-in_err-w-clause-did
returns-in_err-w-clause-did g c =
    let state = g.S.Strings.state in
    let p = err_from_is_err_and c.from_residual.result c.from_residual.ensures.1 in
    rw (p.1, p.2) (join_stops g.S.Strings.number (state c.args.store.now) (state c.to_text.new.store) c.args.s c.args.value.now c.in_err-w.field-0.0 c.in_err-w.ensures.did)

pub returns-clause-did : goal.returns-clause-did
returns-clause-did g c =
    let state = g.S.Strings.state in
    let e = c.in_ok-w.ensures in
    join_does g.S.Strings.number (state c.args.store.now) (state c.to_text.new.store) (state c.append.new.store) c.args.s c.in_ok-w.w
    c.args.value.now c.append.result e.grows c.requires.known e.did c.append.ensures.did

pub returns-clause-read : goal.returns-clause-read
returns-clause-read g c =
    let state = g.S.Strings.state in
    let number = g.S.Strings.number in
    let d = state c.append.new.store in
    on_ok_always c.append.result (ElementsSettled d number c.args.value.now)
    (elements_read number (state c.to_text.new.store) d c.append.ensures.grows c.args.value.now (number c.in_ok-w.w) c.in_ok-w.ensures.own)
