use Rattle.std.proofs.Common.{◌≡◌, ℕ, zero, suc, ◌+◌, List, [], ◌∷◌, ◌++◌, take, sym, ap, ◌∙◌, arith}
use Rattle.std.proofs.lemmas.List.{length-set, take_more_set}
use Rattle.std.specs.Slots.{slots_items}
use mathlib.Core.Option.{some}
use lib.ListN.{get_elem?}
use Rattle.heap_table.proofs.closing.copy_words.Goals as goal

-- the item at a place is the next one
take_read : (xs : List ℕ) (i x : ℕ) → get_elem? xs i ≡ some x → take (suc i) xs ≡ take i xs ++ x ∷ []
take_read [] i x e = cc
take_read (y ∷ ys) zero x e = cc
take_read (y ∷ ys) (suc i) x e = ap (λ (zs : List ℕ). y ∷ zs) (take_read ys i x e)

pub loop-i-preserved : goal.loop-i-preserved
loop-i-preserved c = let v = c.loop-i.invariant in let i = c.loop-i.i in let items = slots_items c.args.closed.now.words in let x = c.word.result in
    let on : i + 1 ≡ suc i = omega arith in record {
      length = length-set c.loop-i.words i x ∙ v.length;
      copied = take_more_set c.loop-i.words i x (omega (arith, v.length, c.loop-i-test.true))
          ∙ (ap (λ (xs : List ℕ). xs ++ x ∷ []) v.copied ∙ sym (ap (λ (n : ℕ). take n items) on ∙ take_read items i x c.word.ensures));
    }
