use Rattle.std.proofs.Common.{List, subst}
use Rattle.eval_scopes.specs.declared.binding_list.Binding.{Binding}
use Rattle.eval_scopes.specs.Seen.{IsLeft}
use Rattle.eval_scopes.proofs.BindingLists.{left_within}
use Rattle.eval_scopes.proofs.binding_list.bind_behind.Goals as goal

pub bind_again-requires : goal.bind_again-requires
bind_again-requires g c =
    left_within c.args.all.now.items c.args.used c.args.name.now
    (subst (λ (q : List (Binding g.row.T.Denot)). IsLeft q c.args.used c.args.name.now) c.deref.ensures.value (c.is_left.ensures c.if-is_left.true))
