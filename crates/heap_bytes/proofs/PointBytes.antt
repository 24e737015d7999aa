-- The bytes of a code point, and the code point that bytes begin with.
use Rattle.std.proofs.Common.{◌≡◌, ℕ, ◌+◌, ◌-◌, ◌*◌, ◌/◌, ◌%◌, ◌<◌, ◌≤◌, ⊎_elim, List, [], ◌∷◌, ◌++◌, length, take, drop, get_or, refl, sym, ap, ◌∙◌, arith, subst}
use Rattle.std.specs.Prelude.{encode_utf8, nat_lt}
use Rattle.std.proofs.lemmas.Bool.{cases_lt, cond-true, cond-false, lt-ltb, le-ltb}
use Rattle.std.proofs.lemmas.List.{take_all}
use Rattle.std.proofs.lemmas.Str.{encode_ascii}

pub two : (c : ℕ) → 128 ≤ c → c < 2048 → encode_utf8 c ≡ (192 + c / 64) ∷ (128 + c % 64) ∷ []
unfolding lib.Utf8.encode
two c l h = cond-false (nat_lt c 128) _ _ (le-ltb c 128 l) ∙ cond-true (nat_lt c 2048) _ _ (lt-ltb c 2048 h)

pub three : (c : ℕ) → 2048 ≤ c → c < 65536 → encode_utf8 c ≡ (224 + c / 4096) ∷ (128 + c / 64 % 64) ∷ (128 + c % 64) ∷ []
unfolding lib.Utf8.encode
three c l h = cond-false (nat_lt c 128) _ _ (le-ltb c 128 (omega arith)) ∙ (cond-false (nat_lt c 2048) _ _ (le-ltb c 2048 (omega arith)) ∙ cond-true (nat_lt c 65536) _ _ (lt-ltb c 65536 h))

pub four : (c : ℕ) → 65536 ≤ c → encode_utf8 c ≡ (240 + c / 262144) ∷ (128 + c / 4096 % 64) ∷ (128 + c / 64 % 64) ∷ (128 + c % 64) ∷ []
unfolding lib.Utf8.encode
four c l = cond-false (nat_lt c 128) _ _ (le-ltb c 128 (omega arith)) ∙ (cond-false (nat_lt c 2048) _ _ (le-ltb c 2048 (omega arith)) ∙ cond-false (nat_lt c 65536) _ _ (le-ltb c 65536 l))

-- what bytes begin with where they begin with a code point of one byte to four
abbrev pub One : ℕ → List ℕ → Type 0
One c bs = (c < 128) × (1 ≤ length bs) × (get_or bs 0 0 ≡ c)

abbrev pub Two : ℕ → List ℕ → Type 0
Two c bs = (128 ≤ c) × (c < 2048) × (2 ≤ length bs) × (get_or bs 0 0 ≡ 192 + c / 64) × (get_or bs 1 0 ≡ 128 + c % 64)

abbrev pub Three : ℕ → List ℕ → Type 0
Three c bs = (2048 ≤ c) × (c < 65536) × (3 ≤ length bs) × (get_or bs 0 0 ≡ 224 + c / 4096) × (get_or bs 1 0 ≡ 128 + c / 64 % 64) × (get_or bs 2 0 ≡ 128 + c % 64)

abbrev pub Four : ℕ → List ℕ → Type 0
Four c bs = (65536 ≤ c) × (4 ≤ length bs) × (get_or bs 0 0 ≡ 240 + c / 262144) × (get_or bs 1 0 ≡ 128 + c / 4096 % 64) × (get_or bs 2 0 ≡ 128 + c / 64 % 64) × (get_or bs 3 0 ≡ 128 + c % 64)

module _ (c : ℕ) (rest : List ℕ) where
  is_one : c < 128 → One c (encode_utf8 c ++ rest)
  is_one h = subst (λ (xs : List ℕ). One c (xs ++ rest)) (sym (encode_ascii c h)) (h, omega arith, refl)

  is_two : 128 ≤ c → c < 2048 → Two c (encode_utf8 c ++ rest)
  is_two l h = subst (λ (xs : List ℕ). Two c (xs ++ rest)) (sym (two c l h)) (l, h, omega arith, refl, refl)

  is_three : 2048 ≤ c → c < 65536 → Three c (encode_utf8 c ++ rest)
  is_three l h = subst (λ (xs : List ℕ). Three c (xs ++ rest)) (sym (three c l h)) (l, h, omega arith, refl, refl, refl)

  is_four : 65536 ≤ c → Four c (encode_utf8 c ++ rest)
  is_four l = subst (λ (xs : List ℕ). Four c (xs ++ rest)) (sym (four c l)) (l, omega arith, refl, refl, refl, refl)

  -- bytes that begin with a code point, by the number of its bytes
  pub by_size : (bs : List ℕ) {G : Type 0} → bs ≡ encode_utf8 c ++ rest → (One c bs → G) → (Two c bs → G) → (Three c bs → G) → (Four c bs → G) → G
  by_size bs {G} e f g h k = ⊎_elim
      (λ (a : c < 128). f (subst (One c) (sym e) (is_one a)))
      (λ (a : 128 ≤ c). ⊎_elim
      (λ (b : c < 2048). g (subst (Two c) (sym e) (is_two a b)))
      (λ (b : 2048 ≤ c). ⊎_elim
      (λ (d : c < 65536). h (subst (Three c) (sym e) (is_three b d)))
      (λ (d : 65536 ≤ c). k (subst (Four c) (sym e) (is_four d)))
      (cases_lt c 65536)) (cases_lt c 2048)) (cases_lt c 128)

all_of : (n : ℕ) (xs : List ℕ) → length xs ≡ n → xs ≡ take n xs
all_of n xs e = sym (take_all n xs (omega (arith, e)))

-- the code point by the bytes
pub spells_one : (bs : List ℕ) (c : ℕ) → 1 ≤ length bs → get_or bs 0 0 ≡ c → c < 128 → bs ≡ encode_utf8 c ++ take (length bs - 1) (drop 1 bs)
spells_one [] c l e h = absurd (omega arith)
spells_one (a ∷ xs) c l e h = let t = all_of (length (a ∷ xs) - 1) xs (omega arith) in
    (λ i. e i ∷ t i) ∙ ap (λ (ys : List ℕ). ys ++ take (length (a ∷ xs) - 1) xs) (sym (encode_ascii c h))

pub spells_two : (bs : List ℕ) (c : ℕ) → 2 ≤ length bs → 194 ≤ get_or bs 0 0 → get_or bs 0 0 < 224 → 128 ≤ get_or bs 1 0 → get_or bs 1 0 < 192
    → c ≡ (get_or bs 0 0 - 192) * 64 + (get_or bs 1 0 - 128) → bs ≡ encode_utf8 c ++ take (length bs - 2) (drop 2 bs)
spells_two [] c n l h m k e = absurd (omega arith)
spells_two (a ∷ []) c n l h m k e = absurd (omega arith)
spells_two (a ∷ b ∷ xs) c n l h m k e = let t = all_of (length (a ∷ b ∷ xs) - 2) xs (omega arith) in
    let p : a ≡ 192 + c / 64 = omega (arith, e) in let q : b ≡ 128 + c % 64 = omega (arith, e) in
    (λ i. p i ∷ q i ∷ t i) ∙ ap (λ (ys : List ℕ). ys ++ take (length (a ∷ b ∷ xs) - 2) xs) (sym (two c (omega (arith, e)) (omega (arith, e))))

pub spells_three : (bs : List ℕ) (c : ℕ) → 3 ≤ length bs → 224 ≤ get_or bs 0 0 → get_or bs 0 0 < 240 → 128 ≤ get_or bs 1 0 → get_or bs 1 0 < 192
    → 128 ≤ get_or bs 2 0 → get_or bs 2 0 < 192 → 32 ≤ (get_or bs 0 0 - 224) * 64 + (get_or bs 1 0 - 128)
    → c ≡ ((get_or bs 0 0 - 224) * 64 + (get_or bs 1 0 - 128)) * 64 + (get_or bs 2 0 - 128) → bs ≡ encode_utf8 c ++ take (length bs - 3) (drop 3 bs)
spells_three [] c n l h m k o v r e = absurd (omega arith)
spells_three (a ∷ []) c n l h m k o v r e = absurd (omega arith)
spells_three (a ∷ b ∷ []) c n l h m k o v r e = absurd (omega arith)
spells_three (a ∷ b ∷ d ∷ xs) c n l h m k o v r e = let t = all_of (length (a ∷ b ∷ d ∷ xs) - 3) xs (omega arith) in
    let p : a ≡ 224 + c / 4096 = omega (arith, e) in let q : b ≡ 128 + c / 64 % 64 = omega (arith, e) in let s : d ≡ 128 + c % 64 = omega (arith, e) in
    (λ i. p i ∷ q i ∷ s i ∷ t i) ∙ ap (λ (ys : List ℕ). ys ++ take (length (a ∷ b ∷ d ∷ xs) - 3) xs) (sym (three c (omega (arith, e, r)) (omega (arith, e))))

pub spells_four : (bs : List ℕ) (c : ℕ) → 4 ≤ length bs → 240 ≤ get_or bs 0 0 → 128 ≤ get_or bs 1 0 → get_or bs 1 0 < 192
    → 128 ≤ get_or bs 2 0 → get_or bs 2 0 < 192 → 128 ≤ get_or bs 3 0 → get_or bs 3 0 < 192 → 16 ≤ (get_or bs 0 0 - 240) * 64 + (get_or bs 1 0 - 128)
    → c ≡ ((get_or bs 0 0 - 240) * 64 + (get_or bs 1 0 - 128)) * 4096 + ((get_or bs 2 0 - 128) * 64 + (get_or bs 3 0 - 128)) → bs ≡ encode_utf8 c ++ take (length bs - 4) (drop 4 bs)
spells_four [] c n l m k o v w u r e = absurd (omega arith)
spells_four (a ∷ []) c n l m k o v w u r e = absurd (omega arith)
spells_four (a ∷ b ∷ []) c n l m k o v w u r e = absurd (omega arith)
spells_four (a ∷ b ∷ d ∷ []) c n l m k o v w u r e = absurd (omega arith)
spells_four (a ∷ b ∷ d ∷ f ∷ xs) c n l m k o v w u r e = let t = all_of (length (a ∷ b ∷ d ∷ f ∷ xs) - 4) xs (omega arith) in
    let p : a ≡ 240 + c / 262144 = omega (arith, e) in let q : b ≡ 128 + c / 4096 % 64 = omega (arith, e) in
    let s : d ≡ 128 + c / 64 % 64 = omega (arith, e) in let g : f ≡ 128 + c % 64 = omega (arith, e) in
    (λ i. p i ∷ q i ∷ s i ∷ g i ∷ t i) ∙ ap (λ (ys : List ℕ). ys ++ take (length (a ∷ b ∷ d ∷ f ∷ xs) - 4) xs) (sym (four c (omega (arith, e, r))))
