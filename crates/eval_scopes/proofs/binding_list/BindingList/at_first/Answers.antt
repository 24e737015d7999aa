use Rattle.std.proofs.Common.{◌<◌, ◌≤◌, List, arith, ap, bytes_eq, length, subst, sym, ◌∙◌}
use Rattle.eval_scopes.specs.declared.binding_list.Binding.{Binding}
use Rattle.eval_scopes.specs.Index.{NoneNamed}
use Rattle.eval_scopes.specs.Seen.{bounds_of, IsAt}
use Rattle.eval_scopes.proofs.BindingLists.{none_first}
use Rattle.eval_scopes.proofs.Places.{first_at}
use Rattle.eval_scopes.proofs.Stacked.{length_taken}
use Rattle.eval_scopes.proofs.binding_list.BindingList.at_first.Goals as goal

pub returns-then-is : goal.returns-then-is
returns-then-is g c =
    let s = c.self.inside in
    let x = c.args.name.now in
    let i = c.get-place.result in
    let bs = c.list-list.result.now in
    let same = c.list-list.ensures in
    let many = length_taken s.used s.all.items c.self.invariant.within in
    let within : i < length bs = omega arith in
    let used : i ≤ s.used = omega (arith, within, ap length same, ap length c.self.view_is, many) in
    let none = none_first s.all.items c.args.self.now s.used s.first s.firsts.places x c.key.result i c.self.view_is c.self.invariant c.key.ensures used (omega (arith, c.get-place.ensures)) in
    let read = ap (λ (b : Binding g.row.T.Denot). bytes_eq b.name x) c.index-list-place.is in
    subst (λ (q : List (Binding g.row.T.Denot)). IsAt (bounds_of q) x i) same
    (first_at bs x i c.index-list-place.result within c.index-list-place.is (read ∙ (sym c.is.ensures ∙ c.if-is.true))
    (subst (λ (q : List (Binding g.row.T.Denot)). NoneNamed q x i) (sym same) none))
