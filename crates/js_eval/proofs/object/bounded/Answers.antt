use Rattle.js_eval.proofs.Making.{bounded_does, bounded_stops}
use Rattle.js_eval.proofs.object.bounded.Goals as goal

pub returns-then-is_bounded-clause-fine : goal.returns-then-is_bounded-clause-fine
returns-then-is_bounded-clause-fine g c = (c.requires, c.is_bounded.ensures.0 c.if-is_bounded.true)

pub returns-then-is_bounded-clause-did : goal.returns-then-is_bounded-clause-did
returns-then-is_bounded-clause-did g c =
    bounded_does g.S.Strings.number (g.S.Strings.state c.args._store.now) c.args.at c.args.object c.requires (c.is_bounded.ensures.0 c.if-is_bounded.true)

pub returns-else-is_bounded-clause-did : goal.returns-else-is_bounded-clause-did
returns-else-is_bounded-clause-did g c =
    bounded_stops g.S.Strings.number (g.S.Strings.state c.args._store.now) c.args.at c.args.object (λ k. let t = c.is_bounded.ensures.1 k in let f = c.if-is_bounded.false in cc)
