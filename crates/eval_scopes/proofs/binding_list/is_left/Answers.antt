use Rattle.std.proofs.Common.{arith, ap, sym, ◌∙◌, bytes_eq}
use Rattle.eval_scopes.specs.declared.binding_list.Binding.{Binding}
use Rattle.eval_scopes.proofs.BindingLists.{left_at}
use Rattle.eval_scopes.proofs.binding_list.is_left.Goals as goal

pub returns : goal.returns
returns g c = λ t.
    let read = ap (λ (b : Binding g.row.T.Denot). bytes_eq b.name c.args.name.now) c.index-all-place.is in
    left_at c.args.all.now c.args.place c.index-all-place.result c.args.name.now (omega arith) c.index-all-place.is (read ∙ (sym c.is.ensures ∙ t))
