use Rattle.std.proofs.Common.{arith, false, true, ◌≡◌, ◌∙◌, sym}
use Rattle.heap_core_births.proofs.births.has_own.Goals as goal

pub returns-then-not-contains_key : goal.returns-then-not-contains_key
returns-then-not-contains_key c = (
  (λ (e : false ≡ true). absurd (cc)),
  (λ h. let i = c.words.invariant in let m = i.1 in let l = i.2 in let t = h c.words.at (omega arith) (omega arith) in
      let e : true ≡ false = sym t ∙ (sym c.contains_key.ensures ∙ c.if-not-contains_key.true) in absurd (cc)),
)
