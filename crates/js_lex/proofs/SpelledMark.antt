-- The mark that is taken is spelled where it is taken.
use Rattle.std.proofs.Common.{◌≡◌, ℕ, List, [], ◌∷◌, ◌++◌, Option, Some, None, Bool, true, false, cond, nat_eq, refl, sym, ap, ◌∙◌, subst, arith}
use Rattle.std.proofs.lemmas.Bool.Decides.{nat_tests}
use Rattle.std.specs.Prelude.{◌&&◌}
use Rattle.js_lex.specs.declared.token.Mark.{Mark}
use Rattle.js_lex.specs.declared.token.Mark.TheVariants.{StrictEqual, StrictUnequal, AtMost, AtLeast, And, Or, AddAssign, Increment, Decrement, OpenBrace}
use Rattle.js_lex.specs.declared.token.Mark.TheVariants.{CloseBrace, OpenParen, CloseParen, OpenBracket, CloseBracket, Point, Semicolon, Comma, Less, Greater}
use Rattle.js_lex.specs.declared.token.Mark.TheVariants.{Plus, Minus, Not, Question, Colon, Assign}
use Rattle.js_lex.specs.MarkReader.{mark_front, or_else, one_front, two_front, three_front, with_rest, one_mark, two_mark, three_mark}
use Rattle.js_lex.specs.Marks.{spelling}

is : (c n : ℕ) → nat_eq c n ≡ true → n ≡ c
is c n h = grind (arith, nat_tests)

-- one test of a chain
chain : (w : List ℕ) (t : Bool) (x : Mark) (r : Option Mark) (m : Mark) → (t ≡ true → spelling x ≡ w) → (r ≡ Some m → spelling m ≡ w) → cond t (Some x) r ≡ Some m → spelling m ≡ w
chain w true x r m here later h = let e : x ≡ m = cc in subst (λ k. spelling k ≡ w) e (here refl)
chain w false x r m here later h = later h

both : (a b : Bool) → (a && b) ≡ true → (a ≡ true) × (b ≡ true)
both true b h = (refl, h)
both false b h = absurd cc

one_spelled : (a : ℕ) (m : Mark) → one_mark a ≡ Some m → spelling m ≡ a ∷ []
one_spelled a m h = chain (a ∷ []) (nat_eq a 123) OpenBrace _ m (λ t. ap (λ c. c ∷ []) (is a 123 t))
    (λ h. chain (a ∷ []) (nat_eq a 125) CloseBrace _ m (λ t. ap (λ c. c ∷ []) (is a 125 t))
    (λ h. chain (a ∷ []) (nat_eq a 40) OpenParen _ m (λ t. ap (λ c. c ∷ []) (is a 40 t))
    (λ h. chain (a ∷ []) (nat_eq a 41) CloseParen _ m (λ t. ap (λ c. c ∷ []) (is a 41 t))
    (λ h. chain (a ∷ []) (nat_eq a 91) OpenBracket _ m (λ t. ap (λ c. c ∷ []) (is a 91 t))
    (λ h. chain (a ∷ []) (nat_eq a 93) CloseBracket _ m (λ t. ap (λ c. c ∷ []) (is a 93 t))
    (λ h. chain (a ∷ []) (nat_eq a 46) Point _ m (λ t. ap (λ c. c ∷ []) (is a 46 t))
    (λ h. chain (a ∷ []) (nat_eq a 59) Semicolon _ m (λ t. ap (λ c. c ∷ []) (is a 59 t))
    (λ h. chain (a ∷ []) (nat_eq a 44) Comma _ m (λ t. ap (λ c. c ∷ []) (is a 44 t))
    (λ h. chain (a ∷ []) (nat_eq a 60) Less _ m (λ t. ap (λ c. c ∷ []) (is a 60 t))
    (λ h. chain (a ∷ []) (nat_eq a 62) Greater _ m (λ t. ap (λ c. c ∷ []) (is a 62 t))
    (λ h. chain (a ∷ []) (nat_eq a 43) Plus _ m (λ t. ap (λ c. c ∷ []) (is a 43 t))
    (λ h. chain (a ∷ []) (nat_eq a 45) Minus _ m (λ t. ap (λ c. c ∷ []) (is a 45 t))
    (λ h. chain (a ∷ []) (nat_eq a 33) Not _ m (λ t. ap (λ c. c ∷ []) (is a 33 t))
    (λ h. chain (a ∷ []) (nat_eq a 63) Question _ m (λ t. ap (λ c. c ∷ []) (is a 63 t))
    (λ h. chain (a ∷ []) (nat_eq a 58) Colon _ m (λ t. ap (λ c. c ∷ []) (is a 58 t))
    (λ h. chain (a ∷ []) (nat_eq a 61) Assign _ m (λ t. ap (λ c. c ∷ []) (is a 61 t)) (λ h. absurd cc) h) h) h) h) h) h) h) h) h) h) h) h) h) h) h) h) h

two_same : (a b k l : ℕ) → (nat_eq a k && nat_eq b l) ≡ true → k ∷ l ∷ [] ≡ a ∷ b ∷ []
two_same a b k l t = let e = both (nat_eq a k) (nat_eq b l) t in let p = is a k (e.0) in let q = is b l (e.1) in cc

two_spelled : (a b : ℕ) (m : Mark) → two_mark a b ≡ Some m → spelling m ≡ a ∷ b ∷ []
two_spelled a b m h = chain (a ∷ b ∷ []) (nat_eq a 60 && nat_eq b 61) AtMost _ m (λ t. two_same a b 60 61 t)
    (λ h. chain (a ∷ b ∷ []) (nat_eq a 62 && nat_eq b 61) AtLeast _ m (λ t. two_same a b 62 61 t)
    (λ h. chain (a ∷ b ∷ []) (nat_eq a 38 && nat_eq b 38) And _ m (λ t. two_same a b 38 38 t)
    (λ h. chain (a ∷ b ∷ []) (nat_eq a 124 && nat_eq b 124) Or _ m (λ t. two_same a b 124 124 t)
    (λ h. chain (a ∷ b ∷ []) (nat_eq a 43 && nat_eq b 61) AddAssign _ m (λ t. two_same a b 43 61 t)
    (λ h. chain (a ∷ b ∷ []) (nat_eq a 43 && nat_eq b 43) Increment _ m (λ t. two_same a b 43 43 t)
    (λ h. chain (a ∷ b ∷ []) (nat_eq a 45 && nat_eq b 45) Decrement _ m (λ t. two_same a b 45 45 t) (λ h. absurd cc) h) h) h) h) h) h) h

three_same : (a b c k l n : ℕ) → (nat_eq a k && nat_eq b l && nat_eq c n) ≡ true → k ∷ l ∷ n ∷ [] ≡ a ∷ b ∷ c ∷ []
three_same a b c k l n t = let e = both (nat_eq a k && nat_eq b l) (nat_eq c n) t in let f = both (nat_eq a k) (nat_eq b l) (e.0) in
    let p = is a k (f.0) in let q = is b l (f.1) in let r = is c n (e.1) in cc

three_spelled : (a b c : ℕ) (m : Mark) → three_mark a b c ≡ Some m → spelling m ≡ a ∷ b ∷ c ∷ []
three_spelled a b c m h = chain (a ∷ b ∷ c ∷ []) (nat_eq a 61 && nat_eq b 61 && nat_eq c 61) StrictEqual _ m
    (λ t. three_same a b c 61 61 61 t) (λ h. chain (a ∷ b ∷ c ∷ []) (nat_eq a 33 && nat_eq b 61 && nat_eq c 61) StrictUnequal _ m
    (λ t. three_same a b c 33 61 61 t) (λ h. absurd cc) h) h

pair_same : (p q : Mark × List ℕ) → Some p ≡ Some q → p ≡ q
pair_same p q h = cc

-- a mark with what follows it
split : (s rest : List ℕ) (m : Mark) (o : Option Mark) → with_rest s o ≡ Some (m, rest) → (o ≡ Some m) × (s ≡ rest)
split s rest m None h = absurd cc
split s rest m (Some k) h = let e = pair_same (k, s) (m, rest) h in (ap (λ (p : Mark × List ℕ). Some (p.0)) e, ap (λ (p : Mark × List ℕ). p.1) e)

whole : (w s rest : List ℕ) (m : Mark) → spelling m ≡ w → s ≡ rest → w ++ s ≡ spelling m ++ rest
whole w s rest m e f = ap (λ v. v ++ s) (sym e) ∙ ap (λ r. spelling m ++ r) f

pub stands : (s rest : List ℕ) (m : Mark) → mark_front s ≡ Some (m, rest) → s ≡ spelling m ++ rest
unfolding mark_front
stands s rest m h = go (three_front s) (two_front s) refl refl h
  where
    three : (s : List ℕ) → three_front s ≡ Some (m, rest) → s ≡ spelling m ++ rest
    three [] h = absurd cc
    three (a ∷ []) h = absurd cc
    three (a ∷ b ∷ []) h = absurd cc
    three (a ∷ b ∷ c ∷ s) h = let e = split s rest m (three_mark a b c) h in whole (a ∷ b ∷ c ∷ []) s rest m (three_spelled a b c m (e.0)) (e.1)

    two : (s : List ℕ) → two_front s ≡ Some (m, rest) → s ≡ spelling m ++ rest
    two [] h = absurd cc
    two (a ∷ []) h = absurd cc
    two (a ∷ b ∷ s) h = let e = split s rest m (two_mark a b) h in whole (a ∷ b ∷ []) s rest m (two_spelled a b m (e.0)) (e.1)

    one : (s : List ℕ) → one_front s ≡ Some (m, rest) → s ≡ spelling m ++ rest
    one [] h = absurd cc
    one (a ∷ s) h = let e = split s rest m (one_mark a) h in whole (a ∷ []) s rest m (one_spelled a m (e.0)) (e.1)

    go : (x y : Option (Mark × List ℕ)) → three_front s ≡ x → two_front s ≡ y → or_else x (or_else y (one_front s)) ≡ Some (m, rest) → s ≡ spelling m ++ rest
    go (Some p) y ex ey h = three s (ex ∙ h)
    go None (Some p) ex ey h = two s (ey ∙ h)
    go None None ex ey h = one s h
