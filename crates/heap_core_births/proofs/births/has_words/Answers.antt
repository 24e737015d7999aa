use Rattle.std.proofs.Common.{arith, false, true, ◌≡◌}
use Rattle.heap_core_births.proofs.births.has_words.Goals as goal

pub returns-then-not-has_word : goal.returns-then-not-has_word
returns-then-not-has_word c = (
  (λ (e : false ≡ true). absurd (cc)),
  (λ h. let i = c.words.invariant in let e = i.1 in let l = i.2 in
      let t = c.has_word.ensures.1 (h c.words.at (omega arith) (omega arith)) in let n = c.if-not-has_word.true in absurd (grind (arith, t, n))),
)
