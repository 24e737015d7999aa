use Rattle.eval_scopes.specs.Index.{NoneAmong}
use Rattle.eval_scopes.proofs.index.is_one_of.Given as goal

abbrev pub invariant-loop-i : goal.invariant-loop-i
invariant-loop-i l = NoneAmong l.names l.name l.i
