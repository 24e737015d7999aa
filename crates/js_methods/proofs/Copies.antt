-- Copies of a list, by halves, and what doubling uses.
use Rattle.std.proofs.Common.{◌≡◌, ℕ, zero, suc, ◌+◌, ◌*◌, ◌<◌, ◌≤◌, List, ◌++◌, length, arith, refl, ap, sym, ◌∙◌, length-append, append-nil, ◌⊎◌, inl, inr}
use Rattle.std.specs.Prelude.{◌/◌, ◌%◌, ◌^◌, Option, Some, None, Result, Ok, Err, IfOk}
use Rattle.std.specs.List.{repeat}
use Rattle.std.proofs.lemmas.List.{append_assoc}
use Rattle.std.proofs.Math.Nat.{suc-mul, two-pow-succ}
use Rattle.js_store.specs.State.{State, NamesUnits, IsKnown, text, Grows}
use Rattle.js_store.specs.Faults.{Uses}
use Rattle.js_store.specs.declared.faults.StoreFault.{StoreFault}
use Rattle.js_store.proofs.Laws.{has_text, text_still}
use Rattle.js_methods.proofs.Uses.{uses_within, uses_after}

pub repeat-add : (m n : ℕ) (u : List ℕ) → repeat m u ++ repeat n u ≡ repeat (m + n) u
repeat-add zero n u = ap (λ k. repeat k u) (let e : n ≡ 0 + n = omega arith in e)
repeat-add (suc m) n u = append_assoc u (repeat m u) (repeat n u) ∙ ap (λ v. u ++ v) (repeat-add m n u) ∙ ap (λ k. repeat k u) (let e : suc (m + n) ≡ suc m + n = omega arith in e)

pub repeat-one : (u : List ℕ) → repeat 1 u ≡ u
repeat-one u = simp append-nil

pub length-copies : (n : ℕ) (u : List ℕ) → length (repeat n u) ≡ n * length u
length-copies zero u = omega arith
length-copies (suc n) u = let both = length-append u (repeat n u) in let rest = length-copies n u in let times = suc-mul n (length u) in omega arith

-- twice half as many, and one more where the count is odd
pub even_copies : (n : ℕ) (u : List ℕ) → n % 2 ≡ 0 → repeat (n / 2) u ++ repeat (n / 2) u ≡ repeat n u
even_copies n u h = repeat-add (n / 2) (n / 2) u ∙ ap (λ k. repeat k u) (omega arith)

pub odd_copies : (n : ℕ) (u : List ℕ) → n % 2 ≡ 1 → (repeat (n / 2) u ++ repeat (n / 2) u) ++ u ≡ repeat n u
odd_copies n u h =
    ap (λ v. v ++ u) (repeat-add (n / 2) (n / 2) u) ∙ ap (λ v. repeat (n / 2 + n / 2) u ++ v) (sym (repeat-one u)) ∙
    repeat-add (n / 2 + n / 2) 1 u ∙ ap (λ k. repeat k u) (omega arith)

pub ok_map : {R E : Type 0} {P Q : R → Type 0} (x : Result R E) → ((r : R) → P r → Q r) → IfOk x P → IfOk x Q
ok_map (Ok r) f h = f r h
ok_map (Err e) f h = h

parity_by : (m : ℕ) → m < 2 → (m ≡ 0) ⊎ (m ≡ 1)
parity_by zero h = inl refl
parity_by (suc zero) h = inr refl
parity_by (suc (suc m)) h = absurd (omega arith)

-- both halves are no longer than the whole
even_lengths : (n : ℕ) (u : List ℕ) → n % 2 ≡ 0 → length (repeat (n / 2) u) + length (repeat (n / 2) u) ≤ length (repeat n u)
even_lengths n u h = omega (arith, length-append (repeat (n / 2) u) (repeat (n / 2) u), ap (λ (v : List ℕ). length v) (even_copies n u h))

odd_lengths : (n : ℕ) (u : List ℕ) → n % 2 ≡ 1 → (length (repeat (n / 2) u) + length (repeat (n / 2) u)) + length u ≤ length (repeat n u)
odd_lengths n u h = omega (arith, length-append (repeat (n / 2) u ++ repeat (n / 2) u) u, length-append (repeat (n / 2) u) (repeat (n / 2) u), ap (λ (v : List ℕ). length v) (odd_copies n u h))

-- the same of the strings of a store: `h` has half of the copies of `s`, `e` twice as many
module _ {F : Type 0} (a : State F) (s h n : ℕ) (half : NamesUnits a h (repeat (n / 2) (text a s))) where
  half_text : text a h ≡ repeat (n / 2) (text a s)
  half_text = has_text a h (repeat (n / 2) (text a s)) half

  half_length : length (text a h) ≡ length (repeat (n / 2) (text a s))
  half_length = ap (λ (v : List ℕ). length v) half_text

  fits_twice : length (text a h) + length (text a h) ≤ length (repeat n (text a s))
  fits_twice = elim (parity_by (n % 2) (omega arith)) [ inl p ↦ omega (arith, half_length, even_lengths n (text a s) p) | inr p ↦ omega (arith, half_length, odd_lengths n (text a s) p) ]

  pub even_room : (limit : ℕ) → length (repeat n (text a s)) ≤ limit → length (text a h) + length (text a h) ≤ limit
  even_room limit k = omega (arith, fits_twice)

  pub even_value : (b : State F) (r : ℕ) → n % 2 ≡ 0 → NamesUnits b r (text a h ++ text a h) → NamesUnits b r (repeat n (text a s))
  even_value b r p k = k ∙ ap Some (ap (λ (v : List ℕ). v ++ v) half_text ∙ even_copies n (text a s) p)

  module _ (b : State F) (e : ℕ) (known : IsKnown a s) (odd : n % 2 ≡ 1) (double : NamesUnits b e (text a h ++ text a h)) (first : Uses a b None 1 3) where
    kept : text b s ≡ text a s
    kept = text_still first.step.grows s known

    both : text b e ++ text b s ≡ repeat n (text a s)
    both =
        ap (λ (v : List ℕ). v ++ text b s) (has_text b e (text a h ++ text a h) double) ∙
        ap (λ (v : List ℕ). (v ++ v) ++ text b s) half_text ∙
        ap (λ (v : List ℕ). (repeat (n / 2) (text a s) ++ repeat (n / 2) (text a s)) ++ v) kept ∙
        odd_copies n (text a s) odd

    lengths : length (text b e) + length (text b s) ≡ length (repeat n (text a s))
    lengths = omega (arith, length-append (text b e) (text b s), ap (λ (v : List ℕ). length v) both)

    pub odd_room : length (repeat n (text a s)) ≤ a.limit → length (text b e) + length (text b s) ≤ b.limit
    odd_room k = omega (arith, lengths, first.step.grows.limit)

    pub odd_value : (c : State F) (r : ℕ) → NamesUnits c r (text b e ++ text b s) → NamesUnits c r (repeat n (text a s))
    odd_value c r k = k ∙ ap Some both

pub half_lengths : (n : ℕ) (u : List ℕ) → length (repeat (n / 2) u) ≤ length (repeat n u)
half_lengths n u = elim (parity_by (n % 2) (omega arith)) [ inl p ↦ omega (arith, even_lengths n u p) | inr p ↦ omega (arith, odd_lengths n u p) ]

-- the half is below half of the power
halves : (n k : ℕ) → 2 ≤ n → n < 2 ^ (k + 1) → (j : ℕ) × (k ≡ suc j) × (n / 2 < 2 ^ (j + 1))
halves n zero h l = absurd (omega arith)
halves n (suc j) h l =
    let e : 2 ^ (suc j + 1) ≡ 2 ^ (j + 1) + 2 ^ (j + 1) = ap (λ i. 2 ^ i) (let i : suc j + 1 ≡ suc (j + 1) = omega arith in i) ∙ two-pow-succ (j + 1) in
    (j, refl, omega (arith, e))

-- what doubling uses where the half was refused, and where it was made
pub half_use : {F : Type 0} {a b : State F} {f : Option StoreFault} (n : ℕ) →
    2 ≤ n → ((k : ℕ) → n / 2 < 2 ^ (k + 1) → Uses a b f (2 * k) (6 * k)) → (k : ℕ) → n < 2 ^ (k + 1) → Uses a b f (2 * k) (6 * k)
half_use n h s k l = let j = halves n k h l in uses_within (s j.0 j.2) (omega (arith, j.1)) (omega (arith, j.1))

pub whole_use : {F : Type 0} {a b c : State F} {f : Option StoreFault} (n : ℕ) →
    2 ≤ n → ((k : ℕ) → n / 2 < 2 ^ (k + 1) → Uses a b None (2 * k) (6 * k)) → Uses b c f 2 6 → (k : ℕ) → n < 2 ^ (k + 1) → Uses a c f (2 * k) (6 * k)
whole_use n h s t k l = let j = halves n k h l in uses_after (s j.0 j.2) t (omega (arith, j.1)) (omega (arith, j.1))

-- the string is the same behind the half
module _ {F : Type 0} (a b : State F) (s n : ℕ) (known : IsKnown a s) (grows : Grows a b) where
  same_text : text b s ≡ text a s
  same_text = text_still grows s known

  pub half_value : (h : ℕ) → NamesUnits b h (repeat (n / 2) (text a s)) → NamesUnits b h (repeat (n / 2) (text b s))
  half_value h k = k ∙ ap (λ (u : List ℕ). Some (repeat (n / 2) u)) (sym same_text)

  pub whole_room : length (repeat n (text a s)) ≤ a.limit → length (repeat n (text b s)) ≤ b.limit
  whole_room k = omega (arith, ap (λ (u : List ℕ). length (repeat n u)) same_text, grows.limit)

  pub whole_value : (c : State F) (r : ℕ) → NamesUnits c r (repeat n (text b s)) → NamesUnits c r (repeat n (text a s))
  whole_value c r k = k ∙ ap (λ (u : List ℕ). Some (repeat n u)) same_text
