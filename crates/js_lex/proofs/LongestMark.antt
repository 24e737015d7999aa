-- The mark that is taken is the longest.
use Rattle.std.proofs.Common.{◌≡◌, ℕ, ◌≤◌, List, [], ◌∷◌, ◌++◌, length, Option, Some, None, refl, sym, ap, ◌∙◌, subst, arith}
use Rattle.js_lex.specs.declared.token.Mark.{Mark}
use Rattle.js_lex.specs.declared.token.Mark.TheVariants.{StrictEqual, StrictUnequal, AtMost, AtLeast, And, Or, AddAssign, Increment, Decrement, OpenBrace}
use Rattle.js_lex.specs.declared.token.Mark.TheVariants.{CloseBrace, OpenParen, CloseParen, OpenBracket, CloseBracket, Point, Semicolon, Comma, Less, Greater}
use Rattle.js_lex.specs.declared.token.Mark.TheVariants.{Plus, Minus, Not, Question, Colon, Assign}
use Rattle.js_lex.specs.MarkReader.{mark_front, or_else, one_front, two_front, three_front}
use Rattle.js_lex.specs.Marks.{spelling}

one_at_least : (m : Mark) → 1 ≤ length (spelling m)
one_at_least StrictEqual = omega arith
one_at_least StrictUnequal = omega arith
one_at_least AtMost = omega arith
one_at_least AtLeast = omega arith
one_at_least And = omega arith
one_at_least Or = omega arith
one_at_least AddAssign = omega arith
one_at_least Increment = omega arith
one_at_least Decrement = omega arith
one_at_least OpenBrace = omega arith
one_at_least CloseBrace = omega arith
one_at_least OpenParen = omega arith
one_at_least CloseParen = omega arith
one_at_least OpenBracket = omega arith
one_at_least CloseBracket = omega arith
one_at_least Point = omega arith
one_at_least Semicolon = omega arith
one_at_least Comma = omega arith
one_at_least Less = omega arith
one_at_least Greater = omega arith
one_at_least Plus = omega arith
one_at_least Minus = omega arith
one_at_least Not = omega arith
one_at_least Question = omega arith
one_at_least Colon = omega arith
one_at_least Assign = omega arith

-- a mark of two or three characters is taken where it stands
abbrev Taken : Mark → List ℕ → Type 0
Taken StrictEqual other = mark_front (spelling StrictEqual ++ other) ≡ Some (StrictEqual, other)
Taken StrictUnequal other = mark_front (spelling StrictUnequal ++ other) ≡ Some (StrictUnequal, other)
Taken AtMost other = mark_front (spelling AtMost ++ other) ≡ Some (AtMost, other)
Taken AtLeast other = mark_front (spelling AtLeast ++ other) ≡ Some (AtLeast, other)
Taken And other = mark_front (spelling And ++ other) ≡ Some (And, other)
Taken Or other = mark_front (spelling Or ++ other) ≡ Some (Or, other)
Taken AddAssign other = mark_front (spelling AddAssign ++ other) ≡ Some (AddAssign, other)
Taken Increment other = mark_front (spelling Increment ++ other) ≡ Some (Increment, other)
Taken Decrement other = mark_front (spelling Decrement ++ other) ≡ Some (Decrement, other)
Taken OpenBrace other = length (spelling OpenBrace) ≡ 1
Taken CloseBrace other = length (spelling CloseBrace) ≡ 1
Taken OpenParen other = length (spelling OpenParen) ≡ 1
Taken CloseParen other = length (spelling CloseParen) ≡ 1
Taken OpenBracket other = length (spelling OpenBracket) ≡ 1
Taken CloseBracket other = length (spelling CloseBracket) ≡ 1
Taken Point other = length (spelling Point) ≡ 1
Taken Semicolon other = length (spelling Semicolon) ≡ 1
Taken Comma other = length (spelling Comma) ≡ 1
Taken Less other = length (spelling Less) ≡ 1
Taken Greater other = length (spelling Greater) ≡ 1
Taken Plus other = length (spelling Plus) ≡ 1
Taken Minus other = length (spelling Minus) ≡ 1
Taken Not other = length (spelling Not) ≡ 1
Taken Question other = length (spelling Question) ≡ 1
Taken Colon other = length (spelling Colon) ≡ 1
Taken Assign other = length (spelling Assign) ≡ 1

taken : (n : Mark) (other : List ℕ) → Taken n other
unfolding mark_front
taken StrictEqual other = refl
taken StrictUnequal other = refl
taken AtMost [] = refl
taken AtMost (c ∷ s) = refl
taken AtLeast [] = refl
taken AtLeast (c ∷ s) = refl
taken And [] = refl
taken And (c ∷ s) = refl
taken Or [] = refl
taken Or (c ∷ s) = refl
taken AddAssign [] = refl
taken AddAssign (c ∷ s) = refl
taken Increment [] = refl
taken Increment (c ∷ s) = refl
taken Decrement [] = refl
taken Decrement (c ∷ s) = refl
taken OpenBrace other = refl
taken CloseBrace other = refl
taken OpenParen other = refl
taken CloseParen other = refl
taken OpenBracket other = refl
taken CloseBracket other = refl
taken Point other = refl
taken Semicolon other = refl
taken Comma other = refl
taken Less other = refl
taken Greater other = refl
taken Plus other = refl
taken Minus other = refl
taken Not other = refl
taken Question other = refl
taken Colon other = refl
taken Assign other = refl

mark_same : (p q : Mark × List ℕ) → Some p ≡ Some q → p ≡ q
mark_same p q h = cc

abbrev mark_of : Mark × List ℕ → Mark
mark_of p = p.0

same_length : (n m : Mark) (other rest s : List ℕ) → mark_front (spelling n ++ other) ≡ Some (n, other) → mark_front s ≡ Some (m, rest) → s
    ≡ spelling n ++ other → length (spelling n) ≤ length (spelling m)
same_length n m other rest s e h w =
    let k : n ≡ m = ap mark_of (mark_same (n, other) (m, rest) (sym e ∙ (ap mark_front (sym w) ∙ h))) in
    let l : length (spelling n) ≡ length (spelling m) = ap (λ k. length (spelling k)) k in
    omega (arith, l)

pub no_longer : (s rest : List ℕ) (m : Mark) → mark_front s ≡ Some (m, rest) → (n : Mark) (other : List ℕ) → s ≡ spelling n ++ other → length (spelling n) ≤ length (spelling m)
no_longer s rest m h StrictEqual other w = same_length StrictEqual m other rest s (taken StrictEqual other) h w
no_longer s rest m h StrictUnequal other w = same_length StrictUnequal m other rest s (taken StrictUnequal other) h w
no_longer s rest m h AtMost other w = same_length AtMost m other rest s (taken AtMost other) h w
no_longer s rest m h AtLeast other w = same_length AtLeast m other rest s (taken AtLeast other) h w
no_longer s rest m h And other w = same_length And m other rest s (taken And other) h w
no_longer s rest m h Or other w = same_length Or m other rest s (taken Or other) h w
no_longer s rest m h AddAssign other w = same_length AddAssign m other rest s (taken AddAssign other) h w
no_longer s rest m h Increment other w = same_length Increment m other rest s (taken Increment other) h w
no_longer s rest m h Decrement other w = same_length Decrement m other rest s (taken Decrement other) h w
no_longer s rest m h OpenBrace other w = one_at_least m
no_longer s rest m h CloseBrace other w = one_at_least m
no_longer s rest m h OpenParen other w = one_at_least m
no_longer s rest m h CloseParen other w = one_at_least m
no_longer s rest m h OpenBracket other w = one_at_least m
no_longer s rest m h CloseBracket other w = one_at_least m
no_longer s rest m h Point other w = one_at_least m
no_longer s rest m h Semicolon other w = one_at_least m
no_longer s rest m h Comma other w = one_at_least m
no_longer s rest m h Less other w = one_at_least m
no_longer s rest m h Greater other w = one_at_least m
no_longer s rest m h Plus other w = one_at_least m
no_longer s rest m h Minus other w = one_at_least m
no_longer s rest m h Not other w = one_at_least m
no_longer s rest m h Question other w = one_at_least m
no_longer s rest m h Colon other w = one_at_least m
no_longer s rest m h Assign other w = one_at_least m

-- where none is taken, none stands
abbrev IsTaken : Option (Mark × List ℕ) → Type 0
IsTaken None = ⊥
IsTaken (Some p) = Unit {0}

or_taken : (x y : Option (Mark × List ℕ)) → IsTaken y → IsTaken (or_else x y)
or_taken None y t = t
or_taken (Some p) y t = tt

some_one : (a : ℕ) (other : List ℕ) → IsTaken (one_front (a ∷ other)) → IsTaken (mark_front (a ∷ other))
unfolding mark_front
some_one a other t = or_taken (three_front (a ∷ other)) (or_else (two_front (a ∷ other)) (one_front (a ∷ other))) (or_taken (two_front (a ∷ other)) (one_front (a ∷ other)) t)

some_taken : (n : Mark) (other : List ℕ) → IsTaken (mark_front (spelling n ++ other))
unfolding mark_front
some_taken StrictEqual other = subst IsTaken (sym (taken StrictEqual other)) tt
some_taken StrictUnequal other = subst IsTaken (sym (taken StrictUnequal other)) tt
some_taken AtMost other = subst IsTaken (sym (taken AtMost other)) tt
some_taken AtLeast other = subst IsTaken (sym (taken AtLeast other)) tt
some_taken And other = subst IsTaken (sym (taken And other)) tt
some_taken Or other = subst IsTaken (sym (taken Or other)) tt
some_taken AddAssign other = subst IsTaken (sym (taken AddAssign other)) tt
some_taken Increment other = subst IsTaken (sym (taken Increment other)) tt
some_taken Decrement other = subst IsTaken (sym (taken Decrement other)) tt
some_taken OpenBrace other = some_one 123 other tt
some_taken CloseBrace other = some_one 125 other tt
some_taken OpenParen other = some_one 40 other tt
some_taken CloseParen other = some_one 41 other tt
some_taken OpenBracket other = some_one 91 other tt
some_taken CloseBracket other = some_one 93 other tt
some_taken Point other = some_one 46 other tt
some_taken Semicolon other = some_one 59 other tt
some_taken Comma other = some_one 44 other tt
some_taken Less other = some_one 60 other tt
some_taken Greater other = some_one 62 other tt
some_taken Plus other = some_one 43 other tt
some_taken Minus other = some_one 45 other tt
some_taken Not other = some_one 33 other tt
some_taken Question other = some_one 63 other tt
some_taken Colon other = some_one 58 other tt
some_taken Assign other = some_one 61 other tt

pub none_stands : (s : List ℕ) → mark_front s ≡ None → (n : Mark) (other : List ℕ) → s ≡ spelling n ++ other → ⊥
none_stands s h n other w = subst IsTaken (ap mark_front (sym w) ∙ h) (some_taken n other)
