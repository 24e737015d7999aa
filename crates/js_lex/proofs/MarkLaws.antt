-- The reader finds the longest mark, and nothing else.
use Rattle.std.proofs.Common.{◌≡◌, ℕ, List, [], ◌∷◌, ◌++◌, length, Option, Some, None, refl, sym, ap, ◌∙◌, arith}
use Rattle.js_lex.specs.declared.token.Mark.{Mark}
use Rattle.js_lex.specs.declared.token.Mark.TheVariants.{StrictEqual, StrictUnequal, AtMost, AtLeast, And, Or, AddAssign, Increment, Decrement, OpenBrace}
use Rattle.js_lex.specs.declared.token.Mark.TheVariants.{CloseBrace, OpenParen, CloseParen, OpenBracket, CloseBracket, Point, Semicolon, Comma, Less, Greater}
use Rattle.js_lex.specs.declared.token.Mark.TheVariants.{Plus, Minus, Not, Question, Colon, Assign}
use Rattle.js_lex.specs.Marks.{spelling, IsLongest}
use Rattle.js_lex.specs.MarkReader.{HasNoMark}
use Rattle.js_lex.specs.MarkReader.{mark_front}
use Rattle.js_lex.proofs.LongestMark.{no_longer, none_stands}
use Rattle.js_lex.proofs.SpelledMark.{stands}

-- a mark alone is read as itself
alone : (m : Mark) → mark_front (spelling m) ≡ Some (m, [])
unfolding mark_front
alone StrictEqual = refl
alone StrictUnequal = refl
alone AtMost = refl
alone AtLeast = refl
alone And = refl
alone Or = refl
alone AddAssign = refl
alone Increment = refl
alone Decrement = refl
alone OpenBrace = refl
alone CloseBrace = refl
alone OpenParen = refl
alone CloseParen = refl
alone OpenBracket = refl
alone CloseBracket = refl
alone Point = refl
alone Semicolon = refl
alone Comma = refl
alone Less = refl
alone Greater = refl
alone Plus = refl
alone Minus = refl
alone Not = refl
alone Question = refl
alone Colon = refl
alone Assign = refl

pair_same : (p q : Mark × List ℕ) → Some p ≡ Some q → p ≡ q
pair_same p q h = cc

abbrev mark_of : Mark × List ℕ → Mark
mark_of p = p.0

-- one spelling has one mark
pub one_mark_spelled : (m n : Mark) → spelling m ≡ spelling n → m ≡ n
one_mark_spelled m n e = ap mark_of (pair_same (m, []) (n, []) (sym (alone m) ∙ (ap mark_front e ∙ alone n)))

same_fronts : (a b r t : List ℕ) → a ++ r ≡ b ++ t → length a ≡ length b → (a ≡ b) × (r ≡ t)
same_fronts [] [] r t e l = (refl, e)
same_fronts [] (c ∷ b) r t e l = absurd (omega arith)
same_fronts (c ∷ a) [] r t e l = absurd (omega arith)
same_fronts (c ∷ a) (d ∷ b) r t e l =
    let h : c ≡ d = cc in
    let k : a ++ r ≡ b ++ t = cc in
    let s = same_fronts a b r t k (omega arith) in
    (ap (λ x. x ∷ a) h ∙ ap (λ x. d ∷ x) (s.0), s.1)

pub reads_longest : (s rest : List ℕ) (m : Mark) → mark_front s ≡ Some (m, rest) → IsLongest s m rest
reads_longest s rest m h = record { stands = stands s rest m h; longest = no_longer s rest m h }

pub longest_reads : (s rest : List ℕ) (m : Mark) → IsLongest s m rest → mark_front s ≡ Some (m, rest)
longest_reads s rest m l = go (mark_front s) refl
  where
    go : (o : Option (Mark × List ℕ)) → mark_front s ≡ o → mark_front s ≡ Some (m, rest)
    go None e = absurd (none_stands s e m rest l.stands)
    go (Some p) e =
        let w = stands s (p.1) (p.0) e in
        let longer = no_longer s (p.1) (p.0) e m rest l.stands in
        let shorter = l.longest (p.0) (p.1) w in
        let both = same_fronts (spelling (p.0)) (spelling m) (p.1) rest (sym w ∙ l.stands) (omega (arith, longer, shorter)) in
        let k = one_mark_spelled (p.0) m (both.0) in
        e ∙ (ap (λ x. Some (x, p.1)) k ∙ ap (λ x. Some (m, x)) (both.1))

pub no_mark_reads : (s : List ℕ) → HasNoMark s → mark_front s ≡ None
no_mark_reads s h = go (mark_front s) refl
  where
    go : (o : Option (Mark × List ℕ)) → mark_front s ≡ o → mark_front s ≡ None
    go None e = e
    go (Some p) e = absurd (h (p.0) (p.1) (stands s (p.1) (p.0) e))
