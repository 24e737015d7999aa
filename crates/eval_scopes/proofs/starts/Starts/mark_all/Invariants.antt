use Rattle.eval_scopes.specs.Starts.{KeepsReach, ReachesTo}
use Rattle.eval_scopes.proofs.starts.Starts.mark_all.Given as goal

abbrev pub invariant-loop-name : goal.invariant-loop-name
invariant-loop-name l = ReachesTo l.self.counts l.names l.frames l.name-index × KeepsReach l.initial.self.counts l.self.counts l.frames
