use Rattle.std.proofs.Common.{◌≡◌, List, ℕ, false, length, min, refl, subst, sym, ◌∙◌}
use Rattle.eval_scopes.specs.Bindings.{is_among}
use Rattle.eval_scopes.specs.Index.{few, NoneAmong}
use Rattle.eval_scopes.proofs.Indexes.{decided, start_at, no_start_at, none_among}
use Rattle.eval_scopes.proofs.index.Declared.has_by_key.Goals as goal

pub is_one_of-requires-clause-before : goal.is_one_of-requires-clause-before
is_one_of-requires-clause-before c =
    let x = c.args.name.now in
    let ns = c.self.inside.names.now in
    let none = subst (λ (q : List (List ℕ)). NoneAmong q x (min few (length q))) (sym c.self.view_is) c.requires in
    subst (λ (q : List (List ℕ)). NoneAmong q x c.in-Some.start) (sym c.as_slice-names.ensures)
    (start_at c.self.inside.first ns x c.key.result (min few (length ns)) c.in-Some.start c.key.ensures refl none c.self.invariant (sym c.in-Some.is ∙ c.start.ensures))

pub returns-in-Some : goal.returns-in-Some
returns-in-Some c =
    let x = c.args.name.now in
    let ns = c.as_slice-names.result.now in
    let same : ns ≡ c.args.self.now = c.as_slice-names.ensures ∙ c.self.view_is in
    let r = c.is_one_of in
    subst (λ (q : List (List ℕ)). r.result ≡ is_among q x) same (decided r.result (is_among ns x) r.ensures.found (λ f. none_among ns x (r.ensures.none f)))

pub returns-in-None : goal.returns-in-None
returns-in-None c =
    let x = c.args.name.now in
    let ns = c.self.inside.names.now in
    let none = subst (λ (q : List (List ℕ)). NoneAmong q x (min few (length q))) (sym c.self.view_is) c.requires in
    let all = no_start_at c.self.inside.first ns x c.key.result (min few (length ns)) c.key.ensures refl none c.self.invariant (sym c.in-None.is ∙ c.start.ensures) in
    subst (λ (q : List (List ℕ)). false ≡ is_among q x) c.self.view_is (sym (none_among ns x all))
