-- Pairs of units in a block of a string.
use Rattle.std.proofs.Common.{◌≡◌, ℕ, ◌+◌, ◌-◌, ◌<◌, ◌≤◌, List, get_or, ap, subst, sym, ◌∙◌, arith, ⊎_elim}
use Rattle.std.specs.Prelude.{Option, Some, None}
use Rattle.std.proofs.lemmas.Bool.{cases_lt}
use Rattle.js_search.specs.declared.blocks.Block.{Block}
use Rattle.js_search.specs.declared.pairs.Pair.{Pair}
use Rattle.js_search.specs.Blocks.{IsPart}
use Rattle.js_search.specs.Pairs.{HasPair, IsPairOf}
use Rattle.js_search.specs.Places.{IsLast, IsPartAt}
use Rattle.js_search.proofs.Found.{occurs_of}

module _ (u : List ℕ) (b : Block) (p : Pair) (part : IsPart u b) where
  -- a pair of the string that the block has
  pub pair_in : (k : ℕ) → b.from ≤ k → k + p.apart < b.from + b.count → HasPair u p k → HasPair b.units p (k - b.from)
  pair_in k l m h =
      let e : b.from + (k - b.from) ≡ k = omega arith in
      let f : b.from + (k - b.from + p.apart) ≡ k + p.apart = omega arith in
      record {
        first = part.same (k - b.from) (omega arith) ∙ (ap (λ (j : ℕ). get_or u j 0) e ∙ h.first);
        other = part.same (k - b.from + p.apart) (omega arith) ∙ (ap (λ (j : ℕ). get_or u j 0) f ∙ h.other);
      }

  -- what was searched before, and the block up to a place
  pub none_to : (start place to : ℕ) → b.from ≤ place → to + p.apart ≤ b.count → ((k : ℕ) → start ≤ k → k < place → HasPair u p k → ⊥)
      → ((k : ℕ) → place - b.from ≤ k → k < to → HasPair b.units p k → ⊥) → (k : ℕ) → start ≤ k → k < b.from + to → HasPair u p k → ⊥
  none_to start place to l m old new k a c h = ⊎_elim
      (λ (early : k < place). old k a early h)
      (λ (late : place ≤ k). new (k - b.from) (omega arith) (omega arith) (pair_in k (omega arith) (omega arith) h))
      (cases_lt k place)

  -- what was searched before, and the block from a place on
  pub none_down : (end left to : ℕ) → left + p.apart ≤ b.from + b.count → ((k : ℕ) → left ≤ k → k < end → HasPair u p k → ⊥)
      → ((k : ℕ) → to ≤ k → k < left - b.from → HasPair b.units p k → ⊥) → (k : ℕ) → b.from + to ≤ k → k < end → HasPair u p k → ⊥
  none_down end left to m old new k a c h = ⊎_elim
      (λ (early : k < left). new (k - b.from) (omega arith) (omega arith) (pair_in k (omega arith) (omega arith) h))
      (λ (late : left ≤ k). old k late c h)
      (cases_lt k left)

-- where a needle stands its pair does
pub pair_there : (u w : List ℕ) (p : Pair) (k : ℕ) → IsPairOf w p → IsPartAt u w k → HasPair u p k
pair_there u w p k is s =
    let o = occurs_of u w k s in
    let inside = is.inside in
    let e : k + 0 ≡ k = omega arith in record {
      first = ap (λ (j : ℕ). get_or u j 0) (sym e) ∙ (o.reads 0 (omega arith) ∙ sym is.first);
      other = o.reads p.apart inside ∙ sym is.other;
    }

-- what was searched before, and no pair behind the place that was found
module _ (u v w : List ℕ) (p : Pair) (most end at : ℕ) (is : IsPairOf w p) (same : v ≡ u) (none : (k : ℕ) → at < k → k < end → HasPair v p k → ⊥)
    (old : (k : ℕ) → k ≤ most → end ≤ k → IsPartAt u w k → ⊥) where
  pub none_behind : (k : ℕ) → k ≤ most → at < k → IsPartAt u w k → ⊥
  none_behind k l a s = ⊎_elim
      (λ (early : k < end). none k a early (subst (λ (x : List ℕ). HasPair x p k) (sym same) (pair_there u w p k is s)))
      (λ (late : end ≤ k). old k l late s)
      (cases_lt k end)

  -- and the needle doesn't stand there
  pub none_from : (IsPartAt u w at → ⊥) → (k : ℕ) → k ≤ most → at ≤ k → IsPartAt u w k → ⊥
  none_from not k l a s = ⊎_elim
      (λ (early : k < at + 1). let e : k ≡ at = omega arith in not (subst (λ (j : ℕ). IsPartAt u w j) e s))
      (λ (late : at + 1 ≤ k). none_behind k l (omega arith) s)
      (cases_lt k (at + 1))

  -- or it does
  pub last_there : at ≤ most → IsPartAt u w at → IsLast u w most (Some at)
  last_there l s = (l, s, λ j m t. let not : at < j → ⊥ = λ b. none_behind j m b t in omega (arith, not))

  -- or what is left was searched otherwise
  pub last_among : (r : Option ℕ) → at ≤ most → IsLast u w at r → IsLast u w most r
  last_among None l h = λ k m s. ⊎_elim (λ (early : k < at + 1). h k (omega arith) s) (λ (late : at + 1 ≤ k). none_behind k m (omega arith) s) (cases_lt k (at + 1))
  last_among (Some place) l h = (
    omega (arith, h.0),
    h.1,
    λ j m s. ⊎_elim (λ (early : j < at + 1). h.2 j (omega arith) s) (λ (late : at + 1 ≤ j). absurd (none_behind j m (omega arith) s)) (cases_lt j (at + 1)),
  )

-- some more units that are the same
pub same_more : (u w x y : List ℕ) (place from done count : ℕ) → x ≡ u → y ≡ w → ((k : ℕ) → from ≤ k → k < done → get_or u (place + k) 0 ≡ get_or w k 0)
    → ((k : ℕ) → k < count → get_or x (place + done + k) 0 ≡ get_or y (done + k) 0) → (k : ℕ) → from ≤ k → k < done + count → get_or u (place + k) 0 ≡ get_or w k 0
same_more u w x y place from done count e f old new k a b = ⊎_elim
    (λ (early : k < done). old k a early)
    (λ (late : done ≤ k).
    let i : place + done + (k - done) ≡ place + k = omega arith in
    let j : done + (k - done) ≡ k = omega arith in
    ap (λ (n : ℕ). get_or u n 0) (sym i) ∙ (ap (λ (z : List ℕ). get_or z (place + done + (k - done)) 0) (sym e)
    ∙ (new (k - done) (omega arith) ∙ (ap (λ (z : List ℕ). get_or z (done + (k - done)) 0) f ∙ ap (λ (n : ℕ). get_or w n 0) j))))
    (cases_lt k done)
