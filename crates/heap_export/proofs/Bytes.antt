-- The bytes of a code point, one by one.
use Rattle.std.proofs.Common.{◌≡◌, ℕ, ◌+◌, ◌/◌, ◌%◌, ◌<◌, ◌≤◌, List, [], ◌∷◌, ◌++◌, length, take, drop, refl, sym, ap, ◌∙◌, arith, append_assoc}
use Rattle.std.specs.Prelude.{encode_utf8, nat_lt, slice_set}
use Rattle.std.specs.Char.{len_utf8}
use Rattle.std.proofs.Math.Seq.{take-append-add, take-append_seam}
use Rattle.std.proofs.lemmas.List.{length-take-le}
use Rattle.std.proofs.lemmas.Bool.{cond-true, cond-false, lt-ltb, le-ltb}

set_two : (xs : List ℕ) (a b : ℕ) → 2 ≤ length xs → slice_set (slice_set xs 0 a) 1 b ≡ a ∷ b ∷ drop 2 xs
set_two [] a b h = absurd (omega arith)
set_two (x ∷ []) a b h = absurd (omega arith)
set_two (x ∷ y ∷ xs) a b h = refl

set_three : (xs : List ℕ) (a b c : ℕ) → 3 ≤ length xs → slice_set (slice_set (slice_set xs 0 a) 1 b) 2 c ≡ a ∷ b ∷ c ∷ drop 3 xs
set_three [] a b c h = absurd (omega arith)
set_three (x ∷ []) a b c h = absurd (omega arith)
set_three (x ∷ y ∷ []) a b c h = absurd (omega arith)
set_three (x ∷ y ∷ z ∷ xs) a b c h = refl

set_four : (xs : List ℕ) (a b c d : ℕ) → 4 ≤ length xs → slice_set (slice_set (slice_set (slice_set xs 0 a) 1 b) 2 c) 3 d ≡ a ∷ b ∷ c ∷ d ∷ drop 4 xs
set_four [] a b c d h = absurd (omega arith)
set_four (x ∷ []) a b c d h = absurd (omega arith)
set_four (x ∷ y ∷ []) a b c d h = absurd (omega arith)
set_four (x ∷ y ∷ z ∷ []) a b c d h = absurd (omega arith)
set_four (x ∷ y ∷ z ∷ w ∷ xs) a b c d h = refl

len_two : (c : ℕ) → 128 ≤ c → c < 2048 → len_utf8 c ≡ 2
len_two c l h = cond-false (nat_lt c 128) _ _ (le-ltb c 128 l) ∙ cond-true (nat_lt c 2048) _ _ (lt-ltb c 2048 h)

len_three : (c : ℕ) → 2048 ≤ c → c < 65536 → len_utf8 c ≡ 3
len_three c l h = cond-false (nat_lt c 128) _ _ (le-ltb c 128 (omega arith)) ∙ (cond-false (nat_lt c 2048) _ _ (le-ltb c 2048 l) ∙ cond-true (nat_lt c 65536) _ _ (lt-ltb c 65536 h))

len_four : (c : ℕ) → 65536 ≤ c → len_utf8 c ≡ 4
len_four c l = cond-false (nat_lt c 128) _ _ (le-ltb c 128 (omega arith)) ∙ (cond-false (nat_lt c 2048) _ _ (le-ltb c 2048 (omega arith)) ∙ cond-false (nat_lt c 65536) _ _ (le-ltb c 65536 l))

two : (c : ℕ) → 128 ≤ c → c < 2048 → encode_utf8 c ≡ (192 + c / 64) ∷ (128 + c % 64) ∷ []
unfolding lib.Utf8.encode
two c l h = cond-false (nat_lt c 128) _ _ (le-ltb c 128 l) ∙ cond-true (nat_lt c 2048) _ _ (lt-ltb c 2048 h)

three : (c : ℕ) → 2048 ≤ c → c < 65536 → encode_utf8 c ≡ (224 + c / 4096) ∷ (128 + c / 64 % 64) ∷ (128 + c % 64) ∷ []
unfolding lib.Utf8.encode
three c l h = cond-false (nat_lt c 128) _ _ (le-ltb c 128 (omega arith)) ∙ (cond-false (nat_lt c 2048) _ _ (le-ltb c 2048 l) ∙ cond-true (nat_lt c 65536) _ _ (lt-ltb c 65536 h))

four : (c : ℕ) → 65536 ≤ c → encode_utf8 c ≡ (240 + c / 262144) ∷ (128 + c / 4096 % 64) ∷ (128 + c / 64 % 64) ∷ (128 + c % 64) ∷ []
unfolding lib.Utf8.encode
four c l = cond-false (nat_lt c 128) _ _ (le-ltb c 128 (omega arith)) ∙ (cond-false (nat_lt c 2048) _ _ (le-ltb c 2048 (omega arith)) ∙ cond-false (nat_lt c 65536) _ _ (le-ltb c 65536 l))

module _ (c : ℕ) (xs : List ℕ) (room : len_utf8 c ≤ length xs) where
  pub put_two : 128 ≤ c → c < 2048 → slice_set (slice_set xs 0 (192 + c / 64)) 1 (128 + c % 64) ≡ encode_utf8 c ++ drop (len_utf8 c) xs
  put_two l h = let n = len_two c l h in set_two xs (192 + c / 64) (128 + c % 64) (omega (arith, n, room))
      ∙ (ap (λ bs. bs ++ drop 2 xs) (sym (two c l h)) ∙ ap (λ k. encode_utf8 c ++ drop k xs) (sym n))

  pub put_three : 2048 ≤ c → c < 65536 → slice_set (slice_set (slice_set xs 0 (224 + c / 4096)) 1 (128 + c / 64 % 64)) 2 (128 + c % 64) ≡ encode_utf8 c ++ drop (len_utf8 c) xs
  put_three l h = let n = len_three c l h in set_three xs (224 + c / 4096) (128 + c / 64 % 64) (128 + c % 64) (omega (arith, n, room))
      ∙ (ap (λ bs. bs ++ drop 3 xs) (sym (three c l h)) ∙ ap (λ k. encode_utf8 c ++ drop k xs) (sym n))

  pub put_four : 65536 ≤ c → slice_set (slice_set (slice_set (slice_set xs 0 (240 + c / 262144)) 1 (128 + c / 4096 % 64)) 2
      (128 + c / 64 % 64)) 3 (128 + c % 64) ≡ encode_utf8 c ++ drop (len_utf8 c) xs
  put_four l = let n = len_four c l in set_four xs (240 + c / 262144) (128 + c / 4096 % 64) (128 + c / 64 % 64) (128 + c % 64) (omega (arith, n, room))
      ∙ (ap (λ bs. bs ++ drop 4 xs) (sym (four c l)) ∙ ap (λ k. encode_utf8 c ++ drop k xs) (sym n))

-- a part is put behind what a list has in front
pub put_behind : (at n : ℕ) (xs ys part tail rest whole : List ℕ) → at ≤ length xs → n ≡ length part → ys ≡ take at xs ++ (part ++ tail)
    → take at xs ++ (part ++ rest) ≡ whole → take (at + n) ys ++ rest ≡ whole
put_behind at n xs ys part tail rest whole h e is w =
    let long : length (take at xs) ≡ at = length-take-le at xs h in
    let front : take (at + n) ys ≡ take at xs ++ part =
    ap (take (at + n)) is
    ∙ (ap (λ k. take k (take at xs ++ (part ++ tail))) (omega (arith, long))
    ∙ (take-append-add (take at xs) (part ++ tail) n
    ∙ ap (λ bs. take at xs ++ bs) (ap (λ k. take k (part ++ tail)) e ∙ take-append_seam part tail))) in
    ap (λ bs. bs ++ rest) front ∙ (append_assoc (take at xs) part rest ∙ w)
