use Rattle.js_store.specs.State.{text}
use Rattle.eval_values.proofs.Sums.{spelled_sum}
use Rattle.eval_values.proofs.operators.write_joined.Goals as goal

pub returns-clause-did : goal.returns-clause-did
returns-clause-did g c =
    let state = g.S.Strings.state in
    let a = state c.args.store.now in
    let u = c.write_digits-count.ensures.units in
    let d = c.join_units.ensures.did in
    spelled_sum g.S.Strings.number a (state c.join_units.new.store) (text a (g.S.Strings.number c.args.s)) _ c.join_units.result (rw u at d)
