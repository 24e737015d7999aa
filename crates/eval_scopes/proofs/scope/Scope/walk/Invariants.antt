use Rattle.eval_scopes.specs.Seen.{bounds_of}
use Rattle.eval_scopes.proofs.Places.{Sought}
use Rattle.eval_scopes.proofs.scope.Scope.walk.Given as goal

abbrev pub invariant-loop-block : goal.invariant-loop-block
invariant-loop-block g l = Sought l.self.blocks.frames (bounds_of l.self.top) l.name l.block
