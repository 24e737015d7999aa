use Rattle.std.proofs.Common.{arith, List, subst, sym, ◌∙◌}
use Rattle.eval_scopes.specs.declared.binding_list.Binding.{Binding}
use Rattle.eval_scopes.specs.Seen.{bounds_of, IsOnly}
use Rattle.eval_scopes.proofs.Stacked.{only_one}
use Rattle.eval_scopes.proofs.binding_list.BindingList.is_only.Goals as goal

pub returns : goal.returns
returns g c = λ t.
    subst (λ (q : List (Binding g.row.T.Denot)). IsOnly (bounds_of q) c.args.name.now) c.list-list.ensures
    (only_one c.list-list.result.now c.index-list-0.result c.args.name.now (omega arith) c.index-list-0.is c.if-one.false (sym c.is.ensures ∙ t))
