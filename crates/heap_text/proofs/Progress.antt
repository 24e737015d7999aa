-- How far the loop that fills has come: whatever fills the lanes of what is left fills those of the whole. `us` are the units of what is
-- left, `us0` those of the whole; nothing here knows of ids.
use Rattle.std.proofs.Common.{◌≡◌, ℕ, ◌+◌, ◌-◌, ◌<◌, ◌≤◌, Bool, false, List, ◌++◌, length, get_or, ap, sym, subst, ◌∙◌, arith}
use Rattle.std.proofs.lemmas.List.{get_or_append_left, get_or-append_right}
use Rattle.heap_text.specs.Filling.{IsBoth}
use Rattle.heap_read.specs.Filling.{IsFilled}
use Rattle.heap_read.proofs.Placing.{filled_back, filled_then}

pub record IsFilling (wide : Bool) (start : ℕ) (first now : ℕ → ℕ) (at0 n0 : ℕ) (us0 : List ℕ) (at n : ℕ) (us : List ℕ) : Type 0 where
  pub count : length us ≡ n
  pub some : 0 < n
  pub within : at + n ≤ at0 + n0
  pub fewer : n ≤ n0
  pub fits : wide ≡ false → (k : ℕ) → k < n → get_or us k 0 < 256
  pub rest : (after : ℕ → ℕ) → IsFilled wide start now after at n (λ k. get_or us k 0) → IsFilled wide start first after at0 n0 (λ k. get_or (us0) k 0)

pub left_fits : (wide : Bool) (us ls rs : List ℕ) (m n : ℕ) → IsBoth us ls rs m n → (wide ≡ false → (k : ℕ) → k < n → get_or us k 0 < 256) → wide ≡ false → (k : ℕ) → k < m → get_or ls k 0 < 256
left_fits wide us ls rs m n b fits e k l = subst (λ (x : ℕ). x < 256) (ap (λ (xs : List ℕ). get_or xs k 0) b.both ∙ get_or_append_left ls rs
    0 k (omega (arith, b.left_count))) (fits e k (omega (arith, b.right_some)))

pub right_fits : (wide : Bool) (us ls rs : List ℕ) (m n : ℕ) → IsBoth us ls rs m n → (wide ≡ false → (k : ℕ) → k < n → get_or us k 0 < 256) → wide ≡ false → (k : ℕ) → k < n - m → get_or rs k 0 < 256
right_fits wide us ls rs m n b fits e k l = let back : m + k - m ≡ k = omega arith in let le : m ≤ m + k = omega arith in
    subst (λ (x : ℕ). x < 256) (ap (λ (xs : List ℕ). get_or xs (m + k) 0) b.both ∙
    (get_or-append_right ls rs m (m + k) 0 b.left_count le ∙ ap (λ (j : ℕ). get_or rs j 0) back)) (fits e (m + k) (omega arith))

whole : (wide : Bool) (start : ℕ) (now after : ℕ → ℕ) (us ls rs : List ℕ) (at m n : ℕ) → IsBoth us ls rs m n → IsFilled wide start now after
    at (m + (n - m)) (λ k. get_or (ls ++ rs) k 0) → IsFilled wide start now after at n (λ k. get_or us k 0)
whole wide start now after us ls rs at m n b f = let sum : m + (n - m) ≡ n = omega (arith, b.right_some) in
    subst (λ (xs : List ℕ). IsFilled wide start now after at n (λ k. get_or xs k 0)) (sym b.both) (subst (λ (x : ℕ). IsFilled wide start now after at x (λ k. get_or (ls ++ rs) k 0)) sum f)

-- the left side is filled, the right one is left
pub filled_left : (wide : Bool) (start : ℕ) (first now next : ℕ → ℕ) (at0 n0 : ℕ) (us0 : List ℕ) (at n : ℕ) (us ls rs : List ℕ) (m : ℕ) →
    IsFilling wide start first now at0 n0 us0 at n us → IsBoth us ls rs m n
    → IsFilled wide start now next at m (λ k. get_or ls k 0) → IsFilling wide start first next at0 n0 us0 (at + m) (n - m) rs
filled_left wide start first now next at0 n0 us0 at n us ls rs m f b done = record {
  count = b.right_count;
  some = omega (arith, b.right_some);
  within = omega (arith, f.within, b.right_some);
  fewer = omega (arith, f.fewer);
  fits = right_fits wide us ls rs m n b f.fits;
  rest = λ after g. f.rest after (whole wide start now after us ls rs at m n b (filled_then wide start now next after ls rs at m (n - m) b.left_count done g));
}

-- the right side is filled, the left one is left
pub filled_right : (wide : Bool) (start : ℕ) (first now next : ℕ → ℕ) (at0 n0 : ℕ) (us0 : List ℕ) (at n : ℕ) (us ls rs : List ℕ) (m : ℕ) →
    IsFilling wide start first now at0 n0 us0 at n us → IsBoth us ls rs m n
    → IsFilled wide start now next (at + m) (n - m) (λ k. get_or rs k 0) → IsFilling wide start first next at0 n0 us0 at m ls
filled_right wide start first now next at0 n0 us0 at n us ls rs m f b done = record {
  count = b.left_count;
  some = b.left_some;
  within = omega (arith, f.within, b.right_some);
  fewer = omega (arith, f.fewer, b.right_some);
  fits = left_fits wide us ls rs m n b f.fits;
  rest = λ after g. f.rest after (whole wide start now after us ls rs at m n b (filled_back wide start now next after ls rs at m (n - m) b.left_count done g));
}
