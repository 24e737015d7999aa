-- The sides of a Cons that are filled side by side, and its wide bit.
use Rattle.std.proofs.Common.{◌≡◌, ℕ, ◌+◌, ◌-◌, ◌<◌, ◌≤◌, Bool, true, false, List, length, get_or, sym, subst, arith}
use Rattle.js_units.specs.Lanes.{words_over}
use Rattle.heap_rule.specs.Forms.{IsNarrow}
use Rattle.heap_text.specs.Filling.{IsBoth}
use Rattle.heap_read.specs.Filling.{IsFilled}
use Rattle.heap_read.proofs.Placing.{filled_then}

pub narrow_units : (wide : Bool) (us : List ℕ) → IsNarrow wide us → wide ≡ false → (k : ℕ) → k < length us → get_or us k 0 < 256
narrow_units true us h e k l = absurd (cc)
narrow_units false us h e k l = h k 0 l

pub some_words : (wide : Bool) (n : ℕ) → 0 < n → 1 ≤ words_over wide n
some_words true n l = omega arith
some_words false n l = omega arith

-- both sides, one after the other, are the whole
pub both_filled : (wide : Bool) (start : ℕ) (a b c : ℕ → ℕ) (us ls rs : List ℕ) (m : ℕ) → IsBoth us ls rs m (length us) → IsFilled wide
    start a b 0 m (λ k. get_or ls k 0) → IsFilled wide start b c m (length us - m) (λ k. get_or rs k 0)
    → IsFilled wide start a c 0 (length us) (λ k. get_or us k 0)
both_filled wide start a b c us ls rs m h f g = let sum : m + (length us - m) ≡ length us = omega (arith, h.right_some) in let plain : m ≡ 0 + m = omega arith in
    subst (λ (n : ℕ). IsFilled wide start a c 0 n (λ k. get_or us k 0)) sum
    (subst (λ (xs : List ℕ). IsFilled wide start a c 0 (m + (length us - m)) (λ k. get_or xs k 0)) (sym h.both)
    (filled_then wide start a b c ls rs 0 m (length us - m) h.left_count f (subst (λ (o : ℕ). IsFilled wide start b c o (length us - m) (λ k. get_or rs k 0)) plain g)))
