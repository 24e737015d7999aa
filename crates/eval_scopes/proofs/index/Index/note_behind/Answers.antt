use Rattle.std.proofs.Common.{◌≡◌, ℕ, List, [], subst, sym}
use Rattle.eval_scopes.specs.Index.{IsIndexTo}
use Rattle.eval_scopes.proofs.index.Index.note_behind.Goals as goal

pub returns-in_ok-one_key-in-None-clause-indexed : goal.returns-in_ok-one_key-in-None-clause-indexed
returns-in_ok-one_key-in-None-clause-indexed c =
    let none : c.args.self.now ≡ [] = sym (rw c.in-None.is at c.self.view_is) in
    λ ns p h. c.in_ok-one_key-in-None.ensures.indexed ns p (subst (λ (q : List (ℕ × ℕ)). IsIndexTo q ns c.args.place) none h)
