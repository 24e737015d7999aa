use Rattle.js_store.specs.State.{text}
use Rattle.eval_values.proofs.Orders.{keys_same}
use Rattle.eval_values.proofs.comparing.is_symbol_too.Goals as goal

pub returns-in-Symbol-clause-did : goal.returns-in-Symbol-clause-did
returns-in-Symbol-clause-did g c =
    let state = g.S.Strings.state in
    let number = g.S.Strings.number in
    let a = state c.args.store.now in
    let e = c.same.ensures in
    rw c.in-Symbol.is (keys_same a (state c.same.new.self) (text a (number c.args.key)) (text a (number c.in-Symbol.other)) c.same.result e.uses.step e.uses.history e.units)
