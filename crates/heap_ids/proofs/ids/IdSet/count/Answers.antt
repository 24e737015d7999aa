use Rattle.std.proofs.Common.{◌≡◌, ◌+◌, ◌/◌, ◌^◌, ◌<◌, ◌≤◌, ℕ, List, length, get_or, take, count_ones, sum_by, min, ap, sym, ◌∙◌, ⊎_elim, arith}
use Rattle.std.proofs.lemmas.Bool.{cases_lt}
use Rattle.std.proofs.lemmas.List.{take_all}
use Rattle.std.proofs.lemmas.List.Sums.{sum_by_more}
use Rattle.std.proofs.lemmas.Nat.{ones-le}
use Rattle.heap_ids.specs.Sets.{set_size}
use Rattle.heap_ids.proofs.ids.IdSet.count.Goals as goal

-- the first elements, of which there may be fewer
front : (n m k : ℕ) (ws : List ℕ) → m ≡ min n (length ws) → m ≤ k → k ≤ m → take k ws ≡ take n ws
front n m k ws is lo hi = ⊎_elim
    (λ (l : n < length ws). let same : k ≡ n = omega arith in ap (λ (j : ℕ). take j ws) same)
    (λ (l : length ws ≤ n). take_all k ws (omega arith) ∙ sym (take_all n ws l))
    (cases_lt n (length ws))

pub returns : goal.returns
unfolding set_size
returns c = let n : ℕ = c.args.bound / 64 + 1 in let ws : List ℕ = c.as_slice-words.result.now in
    c.loop-i.invariant.counted ∙ (ap (λ (xs : List ℕ). sum_by count_ones xs) (front n c.min-most.result c.loop-i.i ws c.min-most.ensures c.loop-i-test.false c.loop-i.auto.i-end)
    ∙ ap (λ (xs : List ℕ). sum_by count_ones (take n xs)) c.as_slice-words.ensures.value)

pub loop-i-preserved : goal.loop-i-preserved
loop-i-preserved c = let ws : List ℕ = c.as_slice-words.result.now in let i : ℕ = c.loop-i.i in let m = c.min-most.ensures in let l : i < length ws = omega arith in
    let small : get_or ws i 0 < 2 ^ 64 = (c.type_inv.words i).fits in let few = ones-le 64 (get_or ws i 0) small in let most = c.loop-i.invariant.most in record {
      counted = ap (λ (n : ℕ). n + count_ones (get_or ws i 0)) c.loop-i.invariant.counted ∙ sym (sum_by_more count_ones ws i 0 l);
      most = omega arith;
    }
