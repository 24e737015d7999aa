use Rattle.eval_scopes.proofs.BindingLists.{bound_again}
use Rattle.eval_scopes.proofs.binding_list.bind_again.Goals as goal

pub returns-clause-again : goal.returns-clause-again
returns-clause-again g c = λ x h. bound_again c.args.all.now.items c.args.place c.index_mut-left.result.now x c.args.constant c.args.value c.index_mut-left.ensures.value h
