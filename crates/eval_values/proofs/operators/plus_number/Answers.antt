use Rattle.eval_values.proofs.Sums.{number_later}
use Rattle.eval_values.proofs.operators.plus_number.Goals as goal

pub returns-then-is_few-clause-did : goal.returns-then-is_few-clause-did
returns-then-is_few-clause-did g c =
    let state = g.S.Strings.state in
    let e = c.is_few.ensures.uses in
    number_later g.S.Strings.number (state c.args.store.now) (state c.is_few.new.store) (state c.write_joined.new.store) (g.S.Strings.number c.args.s)
    c.args.n c.write_joined.result c.requires.known e.step e.history c.write_joined.ensures.did
