use Rattle.eval_scopes.specs.Index.{IsIndexTo}
use Rattle.eval_scopes.proofs.index.index_of.Given as goal

abbrev pub invariant-loop-place : goal.invariant-loop-place
invariant-loop-place l = IsIndexTo l.first l.names l.place
