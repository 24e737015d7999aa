-- A mark of one character that begins no longer one.
use Rattle.std.proofs.Common.{◌≡◌, ℕ, List, [], ◌∷◌, true, false, None, nat_eq, refl, arith}
use Rattle.std.proofs.lemmas.Bool.Decides.{nat_tests}
use Rattle.js_lex.specs.MarkReader.{mark_front, is_alone, one_mark, two_mark, three_mark, one_front, two_front, three_front, or_else, with_rest}

pub alone_front : (a : ℕ) (s : List ℕ) → is_alone a ≡ true → mark_front (a ∷ s) ≡ with_rest s (one_mark a)
unfolding mark_front
alone_front a s h = go s
  where
    e33 : nat_eq a 33 ≡ false
    e33 = grind (arith, nat_tests)

    e38 : nat_eq a 38 ≡ false
    e38 = grind (arith, nat_tests)

    e43 : nat_eq a 43 ≡ false
    e43 = grind (arith, nat_tests)

    e45 : nat_eq a 45 ≡ false
    e45 = grind (arith, nat_tests)

    e60 : nat_eq a 60 ≡ false
    e60 = grind (arith, nat_tests)

    e61 : nat_eq a 61 ≡ false
    e61 = grind (arith, nat_tests)

    e62 : nat_eq a 62 ≡ false
    e62 = grind (arith, nat_tests)

    e124 : nat_eq a 124 ≡ false
    e124 = grind (arith, nat_tests)

    two : (b : ℕ) → two_mark a b ≡ None
    two b = rw (e60, e62, e38, e124, e43, e45) refl

    three : (b c : ℕ) → three_mark a b c ≡ None
    three b c = rw (e61, e33) refl

    go : (s : List ℕ) → or_else (three_front (a ∷ s)) (or_else (two_front (a ∷ s)) (one_front (a ∷ s))) ≡ with_rest s (one_mark a)
    go [] = refl
    go (b ∷ []) = rw (two b) refl
    go (b ∷ c ∷ s) = rw (three b c, two b) refl
