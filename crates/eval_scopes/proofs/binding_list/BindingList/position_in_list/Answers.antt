use Rattle.std.proofs.Common.{arith, List, ap, length, subst}
use Rattle.eval_scopes.specs.declared.binding_list.Binding.{Binding}
use Rattle.eval_scopes.specs.Index.{NoneNamed}
use Rattle.eval_scopes.proofs.BindingLists.{none_first}
use Rattle.eval_scopes.proofs.Places.{none_at}
use Rattle.eval_scopes.proofs.Stacked.{length_taken}
use Rattle.eval_scopes.proofs.binding_list.BindingList.position_in_list.Goals as goal

pub returns-then-all-le-FEW : goal.returns-then-all-le-FEW
returns-then-all-le-FEW g c =
    let x = c.args.name.now in
    let none = subst (λ (q : List (Binding g.row.T.Denot)). NoneNamed q x c.min.result) c.list.ensures c.in-None.ensures in
    let whole = ap length c.self.view_is in
    let used = length_taken c.self.inside.used c.self.inside.all.items c.self.invariant.within in
    none_at c.args.self.now x (λ j b m e. none j b (omega (arith, m, whole, used, c.min.ensures)) e)

pub returns-then-get-self : goal.returns-then-get-self
returns-then-get-self g c =
    let s = c.self.inside in
    let x = c.args.name.now in
    let many = length_taken s.used s.all.items c.self.invariant.within in
    let whole = ap length c.self.view_is in
    let none = none_first s.all.items c.args.self.now s.used s.first s.firsts.places x c.key.result s.used c.self.view_is c.self.invariant c.key.ensures (omega arith) (omega (arith, c.get.ensures)) in
    none_at c.args.self.now x (λ j b m e. none j b (omega (arith, m, whole, many)) e)
