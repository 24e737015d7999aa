use Rattle.std.proofs.Common.{sym}
use Rattle.eval_scopes.proofs.scope.Scope.find.Goals as goal

pub place_before-requires-clause-past : goal.place_before-requires-clause-past
place_before-requires-clause-past g c = c.start-start.ensures.past c.args.name.now (sym c.key.ensures)

pub find_by_walk-requires-clause-past : goal.find_by_walk-requires-clause-past
find_by_walk-requires-clause-past g c = c.start-start.ensures.past c.args.name.now (sym c.key.ensures)
