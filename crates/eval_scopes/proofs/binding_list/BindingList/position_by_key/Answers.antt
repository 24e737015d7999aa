use Rattle.std.proofs.Common.{◌≡◌, List, None, MatchOption, ap, length, min, subst, sym, take, ◌∙◌}
use Rattle.eval_scopes.specs.declared.binding_list.Binding.{Binding}
use Rattle.eval_scopes.specs.Bindings.{bound_in}
use Rattle.eval_scopes.specs.Index.{few, NoneNamed}
use Rattle.eval_scopes.specs.Seen.{bounds_of, IsAt}
use Rattle.eval_scopes.proofs.Indexes.{binding_start, found_or_none, no_binding_start}
use Rattle.eval_scopes.proofs.binding_list.BindingList.position_by_key.Goals as goal

pub position_in-requires-clause-before : goal.position_in-requires-clause-before
position_in-requires-clause-before g c =
    let bs = take c.self.inside.used c.self.inside.all.items in
    let none = subst (λ (q : List (Binding g.row.T.Denot)). NoneNamed q c.args.name.now (min few c.args.all)) (sym c.self.view_is) c.requires.few in
    subst (λ (q : List (Binding g.row.T.Denot)). NoneNamed q c.args.name.now c.in-Some.start) (c.self.view_is ∙ sym c.list.ensures)
    (binding_start c.self.inside.first bs c.args.name.now c.key.result (min few c.args.all) c.in-Some.start c.key.ensures
    (ap (λ q. min few q) (c.requires.all ∙ ap length (sym c.self.view_is))) none c.self.invariant.index (sym c.in-Some.is ∙ c.start.ensures))

pub returns-in-Some : goal.returns-in-Some
returns-in-Some g c =
    let x = c.args.name.now in
    let r = c.position_in.result in
    let found = subst (λ (q : List (Binding g.row.T.Denot)). MatchOption r (NoneNamed q x c.args.all) (λ i. IsAt (bounds_of q) x i)) c.list.ensures c.position_in.ensures in
    found_or_none r c.args.self.now x c.args.all c.requires.all found

pub returns-in-None : goal.returns-in-None
returns-in-None g c =
    let bs = take c.self.inside.used c.self.inside.all.items in
    let none = subst (λ (q : List (Binding g.row.T.Denot)). NoneNamed q c.args.name.now (min few c.args.all)) (sym c.self.view_is) c.requires.few in
    subst (λ (q : List (Binding g.row.T.Denot)). bound_in (bounds_of q) c.args.name.now ≡ None) c.self.view_is
    (no_binding_start c.self.inside.first bs c.args.name.now c.key.result (min few c.args.all) c.key.ensures
    (ap (λ q. min few q) (c.requires.all ∙ ap length (sym c.self.view_is))) none c.self.invariant.index (sym c.in-None.is ∙ c.start.ensures))
