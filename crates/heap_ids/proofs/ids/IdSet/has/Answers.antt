use Rattle.std.proofs.Common.{◌∙◌, ap, sym, arith, eq-eqb, eqb-true, ◌/◌, ◌%◌, ◌<◌}
use borrow.Author.Tests.{ltb-true}
use Rattle.std.specs.Int.{bit_at}
use Rattle.std.proofs.lemmas.List.{get_or_read_under}
use Rattle.std.proofs.lemmas.Nat.Bits.{shr_and_one}
use Rattle.heap_ids.specs.Sets.{IsIn}
use Rattle.heap_ids.proofs.Bits.{has_word}
use Rattle.heap_ids.proofs.ids.IdSet.has.Goals as goal

pub returns-then-place-len : goal.returns-then-place-len
unfolding IsIn
returns-then-place-len c = let ws = c.args.self.now.words.items in let w = c.index.result.now in let b = c.args.id % 64 in
    let is = get_or_read_under ws (c.args.id / 64) c.len.result w 0 c.index.ensures c.if-place-len.true (omega arith) in
    let bit = shr_and_one w b in
    (λ t. ap (λ x. bit_at x b) (sym is) ∙ (sym bit ∙ eqb-true _ _ t), λ h. eq-eqb _ _ (bit ∙ (ap (λ x. bit_at x b) is ∙ h)))

pub returns-else-place-len : goal.returns-else-place-len
unfolding IsIn
returns-else-place-len c = (
  λ t. let lt : c.args.id / 64 < c.len.result = ltb-true _ _ t in absurd (omega arith),
  λ h. let low = has_word
      c.args.self.now.words.items c.args.id h in absurd (omega arith),
)
