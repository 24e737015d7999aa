-- What a bit that is set, or a word laid over another, does to what is in a set.
use Rattle.std.proofs.Common.{◌≡◌, ◌≢◌, ℕ, ◌*◌, ◌/◌, ◌%◌, ◌^◌, ◌<◌, ◌≤◌, ◌⊎◌, inl, inr, ⊎_elim, List, length, get_or, set, bit_or, max, replicate, [], ◌∷◌}
use Rattle.std.proofs.Common.{subst, refl, sym, ap, ◌∙◌, arith, w64, get_or-set_same, get_or-set_other}
use Rattle.std.specs.Int.{bit_at}
use Rattle.std.proofs.lemmas.Bool.{cases_eq, cases_lt}
use Rattle.std.specs.List.{AllZip}
use Rattle.std.proofs.lemmas.List.{get_or-replicate, length-replicate}
use Rattle.std.proofs.Math.ListN.{get_or-eq_default}
use Rattle.std.proofs.lemmas.Nat.Bits.{bit_at_set_same, bit_at_set_other, bit_at_or, bit_at-zero, bit_at-lt}
use Rattle.heap_ids.specs.Sets.{has_bit}

absurd_one : (n : ℕ) → n ≡ 0 → n ≡ 1 → ⊥
absurd_one n z e = omega (arith, z, e)

-- the bit of number id is set
module _ (ws : List ℕ) (id w : ℕ) (low : id / 64 < length ws) (is : w ≡ get_or ws (id / 64) 0) where
  abbrev pub marked : ℕ → ℕ
  marked x = bit_or x (1 * 2 ^ (id % 64) % 2 ^ 64)

  abbrev pub after : List ℕ
  after = set ws (id / 64) (marked w)

  within : id % 64 < 64
  within = omega arith

  this_word : (i : ℕ) → i / 64 ≡ id / 64 → get_or after (i / 64) 0 ≡ marked (get_or ws (i / 64) 0)
  this_word i e = ap (λ (n : ℕ). get_or after n 0) e ∙ (get_or-set_same ws (id / 64) (marked w) 0 low ∙ (ap marked is ∙ ap (λ (n : ℕ). marked (get_or ws n 0)) (sym e)))

  other_word : (i : ℕ) → i / 64 ≢ id / 64 → get_or after (i / 64) 0 ≡ get_or ws (i / 64) 0
  other_word i ne = get_or-set_other ws (id / 64) (i / 64) (marked w) 0 ne

  -- the bit of a number in that word, and in another one
  same_bit : (i : ℕ) → i / 64 ≡ id / 64 → i % 64 ≡ id % 64 → has_bit after i
  same_bit i e f = ap (λ (x : ℕ). bit_at x (i % 64)) (this_word i e) ∙ (ap (λ (k : ℕ). bit_at (marked (get_or ws (i / 64) 0)) k) f ∙ bit_at_set_same w64 (get_or ws (i / 64) 0) (id % 64) within)

  beside : (i : ℕ) → i / 64 ≡ id / 64 → i % 64 ≢ id % 64 → bit_at (get_or after (i / 64) 0) (i % 64) ≡ bit_at (get_or ws (i / 64) 0) (i % 64)
  beside i e f = ap (λ (x : ℕ). bit_at x (i % 64)) (this_word i e) ∙ bit_at_set_other w64 (get_or ws (i / 64) 0) (id % 64) within (i % 64) f

  elsewhere : (i : ℕ) → i / 64 ≢ id / 64 → bit_at (get_or after (i / 64) 0) (i % 64) ≡ bit_at (get_or ws (i / 64) 0) (i % 64)
  elsewhere i ne = ap (λ (x : ℕ). bit_at x (i % 64)) (other_word i ne)

  pub there : has_bit after id
  there = same_bit id refl refl

  pub kept : (i : ℕ) → has_bit ws i → has_bit after i
  kept i h = ⊎_elim
      (λ (e : i / 64 ≡ id / 64). ⊎_elim (λ (f : i % 64 ≡ id % 64). same_bit i e f) (λ (f : i % 64 ≢ id % 64). beside i e f ∙ h) (cases_eq (i % 64) (id % 64)))
      (λ (ne : i / 64 ≢ id / 64). elsewhere i ne ∙ h) (cases_eq (i / 64) (id / 64))

  this_one : (i : ℕ) → i / 64 ≡ id / 64 → i % 64 ≡ id % 64 → i ≡ id
  this_one i e f = omega arith

  pub only : (i : ℕ) → has_bit after i → (i ≡ id) ⊎ has_bit ws i
  only i h = ⊎_elim
      (λ (e : i / 64 ≡ id / 64). ⊎_elim (λ (f : i % 64 ≡ id % 64). inl (this_one i e f)) (λ (f : i % 64 ≢ id % 64). inr (sym (beside i e f) ∙ h)) (cases_eq (i % 64) (id % 64)))
      (λ (ne : i / 64 ≢ id / 64). inr (sym (elsewhere i ne) ∙ h)) (cases_eq (i / 64) (id / 64))

-- the words vs lie over ws: each word of the result has the bits of both
module _ (ws vs us : List ℕ) where
  has_either : (x y b : ℕ) → bit_at x b ≡ 1 → bit_at (bit_or x y) b ≡ 1
  has_either x y b h = bit_at_or x y b ∙ omega (arith, h, bit_at-lt x b, bit_at-lt y b)

  has_other : (x y b : ℕ) → bit_at y b ≡ 1 → bit_at (bit_or x y) b ≡ 1
  has_other x y b h = bit_at_or x y b ∙ omega (arith, h, bit_at-lt x b, bit_at-lt y b)

  max_one : (m n : ℕ) → m < 2 → n < 2 → max m n ≡ 1 → (m ≡ 1) ⊎ (n ≡ 1)
  max_one m n p q h = grind (arith, p, q, h)

  has_one : (x y b : ℕ) → bit_at (bit_or x y) b ≡ 1 → (bit_at x b ≡ 1) ⊎ (bit_at y b ≡ 1)
  has_one x y b h = max_one (bit_at x b) (bit_at y b) (bit_at-lt x b) (bit_at-lt y b) (sym (bit_at_or x y b) ∙ h)

  module _ (n : ℕ) (laid : (j : ℕ) → j < n → get_or us j 0 ≡ bit_or (get_or ws j 0) (get_or vs j 0)) (rest : (j : ℕ) → n ≤ j → get_or us j 0 ≡ get_or ws j 0) where
    pub laid_kept : (i : ℕ) → has_bit ws i → has_bit us i
    laid_kept i h = ⊎_elim
        (λ (low : i / 64 < n). ap (λ (x : ℕ). bit_at x (i % 64)) (laid (i / 64) low) ∙ has_either (get_or ws (i / 64) 0) (get_or vs (i / 64) 0) (i % 64) h)
        (λ (high : n ≤ i / 64). ap (λ (x : ℕ). bit_at x (i % 64)) (rest (i / 64) high) ∙ h) (cases_lt (i / 64) n)

    pub laid_only : (i : ℕ) → has_bit us i → has_bit ws i ⊎ has_bit vs i
    laid_only i h = ⊎_elim
        (λ (low : i / 64 < n). has_one (get_or ws (i / 64) 0) (get_or vs (i / 64) 0) (i % 64) (sym (ap (λ (x : ℕ). bit_at x (i % 64)) (laid (i / 64) low)) ∙ h))
        (λ (high : n ≤ i / 64). inl (sym (ap (λ (x : ℕ). bit_at x (i % 64)) (rest (i / 64) high)) ∙ h)) (cases_lt (i / 64) n)

    pub laid_there : (i : ℕ) → i / 64 < n → has_bit vs i → has_bit us i
    laid_there i low h = ap (λ (x : ℕ). bit_at x (i % 64)) (laid (i / 64) low) ∙ has_other (get_or ws (i / 64) 0) (get_or vs (i / 64) 0) (i % 64) h

-- a number that is in has a word
one_of_none : (ws : List ℕ) (k b : ℕ) → length ws ≤ k → bit_at (get_or ws k 0) b ≡ 1 → ⊥
one_of_none ws k b long h = absurd_one (bit_at (get_or ws k 0) b) (ap (λ (x : ℕ). bit_at x b) (get_or-eq_default ws 0 long) ∙ bit_at-zero b) h

pub has_word : (ws : List ℕ) (i : ℕ) → has_bit ws i → i / 64 < length ws
has_word ws i h = ⊎_elim (λ (low : i / 64 < length ws). low) (λ (high : length ws ≤ i / 64). absurd (one_of_none ws (i / 64) (i % 64) high h)) (cases_lt (i / 64) (length ws))

-- words that are 0 have no bit
pub none : (ws : List ℕ) (n : ℕ) → ws ≡ replicate n 0 → (i : ℕ) → has_bit ws i → ⊥
none ws n e i h = let low = has_word ws i h in
    let zero_word : get_or ws (i / 64) 0 ≡ 0 = ap (λ (l : List ℕ). get_or l (i / 64) 0) e ∙ get_or-replicate n (i / 64) 0 0 (subst (λ (m : ℕ). i / 64 < m) (ap length e ∙ length-replicate n 0) low) in
    absurd_one (bit_at (get_or ws (i / 64) 0) (i % 64)) (ap (λ (x : ℕ). bit_at x (i % 64)) zero_word ∙ bit_at-zero (i % 64)) h

pub same_items : (xs ys : List ℕ) → AllZip (λ (x y : ℕ). y ≡ x) xs ys → ys ≡ xs
same_items [] [] a = refl
same_items [] (y ∷ ys) a = absurd a
same_items (x ∷ xs) [] a = absurd a
same_items (x ∷ xs) (y ∷ ys) a = let e : y ≡ x = a.0 in let f : ys ≡ xs = same_items xs ys a.1 in cc
