use Rattle.eval_scopes.specs.Index.{NoneNamed}
use Rattle.eval_scopes.proofs.binding_list.position_in.Given as goal

abbrev pub invariant-loop-i : goal.invariant-loop-i
invariant-loop-i g l = NoneNamed l.bound l.name l.i
