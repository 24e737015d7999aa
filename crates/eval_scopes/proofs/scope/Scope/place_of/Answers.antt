use Rattle.std.proofs.Common.{sym}
use Rattle.eval_scopes.proofs.scope.Scope.place_of.Goals as goal

pub place_before-requires-clause-past : goal.place_before-requires-clause-past
place_before-requires-clause-past g c = c.start-start.ensures.past c.args.name.now (sym c.key.ensures)

pub walk-requires-clause-past : goal.walk-requires-clause-past
walk-requires-clause-past g c = c.start-start.ensures.past c.args.name.now (sym c.key.ensures)
