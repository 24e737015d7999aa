-- Units of two windows, one after the other, and how many lanes a word has.
use Rattle.std.proofs.Common.{◌≡◌, ℕ, ◌+◌, ◌<◌, ◌≤◌, Bool, true, false, List, get_or, sym, ap, ◌∙◌, ⊎_elim, arith}
use Rattle.std.proofs.lemmas.Bool.{cases_lt}
use Rattle.js_units.specs.Lanes.{lane_count}

-- one more unit
pub one_more : (us vs : List ℕ) (i : ℕ) → get_or us i 0 ≡ get_or vs i 0 → ((k : ℕ) → k < i → get_or us k 0 ≡ get_or vs k 0)
    → (k : ℕ) → k < i + 1 → get_or us k 0 ≡ get_or vs k 0
one_more us vs i e was k l = ⊎_elim
    (λ (n : k < i). was k n)
    (λ (n : i ≤ k). let j : i ≡ k = omega arith in ap (λ (n : ℕ). get_or us n 0) (sym j) ∙ (e ∙ ap (λ (n : ℕ). get_or vs n 0) j))
    (cases_lt k i)

pub count_small : (wide : Bool) → lane_count wide ≤ 8
count_small true = omega arith
count_small false = omega arith

pub count_some : (wide : Bool) → 0 < lane_count wide
count_some true = omega arith
count_some false = omega arith
