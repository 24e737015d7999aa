use Rattle.std.proofs.Common.{◌≡◌, List, subst, take}
use Rattle.eval_scopes.specs.declared.binding_list.Binding.{Binding}
use Rattle.eval_scopes.specs.Seen.{bounds_of, put}
use Rattle.eval_scopes.proofs.BindingLists.{set_list, set_used, used_within}
use Rattle.eval_scopes.proofs.binding_list.BindingList.set.Goals as goal

pub set_value-requires : goal.set_value-requires
set_value-requires g c = used_within c.self.inside.used c.args.index c.self.inside.all.items c.args.self.now c.self.view_is c.self.invariant.within c.requires

pub invariant_of-self : goal.invariant_of-self
invariant_of-self g c = set_list c.self.inside.used c.self.inside.all.items c.set_value.new.bound.items c.args.index c.args.value
    c.self.inside.first c.self.inside.firsts.places c.set_value.ensures c.self.invariant

pub returns : goal.returns
returns g c =
    subst (λ (q : List (Binding g.row.T.Denot)). bounds_of (take c.self.inside.used c.set_value.new.bound.items) ≡ put (bounds_of q) c.args.index c.args.value) c.self.view_is
    (set_used c.self.inside.used c.self.inside.all.items c.set_value.new.bound.items c.args.index c.args.value c.set_value.ensures)
