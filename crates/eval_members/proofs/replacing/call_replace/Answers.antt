use Rattle.std.proofs.Common.{arith, ◌≡◌, ◌<◌, ◌+◌, List, [], ◌∷◌, length, refl}
use Rattle.js_store.specs.State.{text}
use Rattle.eval_members.proofs.replacing.call_replace.Goals as goal

no_elements : {A : Type 0} (xs : List A) → length xs < 1 → xs ≡ []
no_elements [] h = refl
no_elements (x ∷ xs) h = absurd (omega (arith, h))

pub returns-in-empty-clause-did : goal.returns-in-empty-clause-did
returns-in-empty-clause-did g c =
    let n = length (text (g.S.Strings.state c.args.store.now) (g.S.Strings.number c.args.s)) in
    rw (no_elements c.args.args.now c.in-empty.len_below) (c.replace_values.ensures.did (n + 0) (n + 0) (n + 0) (omega arith))
