use Rattle.std.proofs.Common.{arith, ◌≡◌, List, ℕ, false, subst, sym, ◌∙◌}
use Rattle.eval_scopes.specs.Bindings.{is_among}
use Rattle.eval_scopes.proofs.Indexes.{none_among}
use Rattle.eval_scopes.proofs.index.Declared.has.Goals as goal

pub returns-then-all-le-FEW : goal.returns-then-all-le-FEW
returns-then-all-le-FEW c =
    let x = c.args.name.now in
    let ns = c.as_slice-names.result.now in
    let same : ns ≡ c.args.self.now = c.as_slice-names.ensures ∙ c.self.view_is in
    let none = c.is_one_of.ensures.none c.if-is_one_of.false in
    subst (λ (q : List (List ℕ)). false ≡ is_among q x) same (sym (none_among ns x (λ j n m e. none j n (omega (arith, m, c.min.ensures)) e)))
