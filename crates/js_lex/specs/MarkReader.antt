-- Helpers: no public contract reaches these definitions.
-- How the code finds the longest mark, for the contracts of private functions.
use Rattle.std.specs.Prelude.{ℕ, List, [], ◌∷◌, Option, Some, None, ◌==◌, Bool, ◌&&◌, ◌||◌, if◌then◌else◌}
use Rattle.std.specs.Prelude.{option_map, ◌≡◌, ◌++◌}
use Rattle.js_lex.specs.Marks.{spelling}
use Rattle.std.specs.Str.{chars}
use Rattle.js_lex.specs.declared.token.Mark.{Mark}
use Rattle.js_lex.specs.declared.token.Mark.TheVariants.{StrictEqual, StrictUnequal, AtMost, AtLeast, And}
use Rattle.js_lex.specs.declared.token.Mark.TheVariants.{Or, AddAssign, Increment, Decrement, OpenBrace}
use Rattle.js_lex.specs.declared.token.Mark.TheVariants.{CloseBrace, OpenParen, CloseParen, OpenBracket}
use Rattle.js_lex.specs.declared.token.Mark.TheVariants.{CloseBracket, Point, Semicolon, Comma, Less}
use Rattle.js_lex.specs.declared.token.Mark.TheVariants.{Greater, Plus, Minus, Not, Question, Colon, Assign}

abbrev pub one_mark : ℕ → Option Mark
one_mark a =
    if a == 123 then Some OpenBrace else (if a == 125 then Some CloseBrace else
    (if a == 40 then Some OpenParen else (if a == 41 then Some CloseParen else
    (if a == 91 then Some OpenBracket else (if a == 93 then Some CloseBracket else
    (if a == 46 then Some Point else (if a == 59 then Some Semicolon else
    (if a == 44 then Some Comma else (if a == 60 then Some Less else
    (if a == 62 then Some Greater else (if a == 43 then Some Plus else
    (if a == 45 then Some Minus else (if a == 33 then Some Not else
    (if a == 63 then Some Question else (if a == 58 then Some Colon else
    (if a == 61 then Some Assign else None))))))))))))))))

abbrev pub two_mark : ℕ → ℕ → Option Mark
two_mark a b =
    if a == 60 && b == 61 then Some AtMost else (if a == 62 && b == 61 then Some AtLeast else
    (if a == 38 && b == 38 then Some And else (if a == 124 && b == 124 then Some Or else
    (if a == 43 && b == 61 then Some AddAssign else (if a == 43 && b == 43 then Some Increment else
    (if a == 45 && b == 45 then Some Decrement else None))))))

abbrev pub three_mark : ℕ → ℕ → ℕ → Option Mark
three_mark a b c =
    if a == 61 && b == 61 && c == 61 then Some StrictEqual else
    (if a == 33 && b == 61 && c == 61 then Some StrictUnequal else None)

-- a mark that begins no longer one
abbrev pub is_alone : ℕ → Bool
is_alone a = a == 123 || a == 125 || a == 40 || a == 41 || a == 91 || a == 93 || a == 46 || a == 59 || a == 44
    || a == 63 || a == 58

abbrev pub with_rest : List ℕ → Option Mark → Option (Mark × List ℕ)
with_rest s found = option_map (λ m. (m, s)) found

abbrev pub one_front : List ℕ → Option (Mark × List ℕ)
one_front [] = None
one_front (a ∷ s) = with_rest s (one_mark a)

abbrev pub two_front : List ℕ → Option (Mark × List ℕ)
two_front [] = None
two_front (a ∷ []) = None
two_front (a ∷ b ∷ s) = with_rest s (two_mark a b)

abbrev pub three_front : List ℕ → Option (Mark × List ℕ)
three_front [] = None
three_front (a ∷ []) = None
three_front (a ∷ b ∷ []) = None
three_front (a ∷ b ∷ c ∷ s) = with_rest s (three_mark a b c)

abbrev pub or_else : Option (Mark × List ℕ) → Option (Mark × List ℕ) → Option (Mark × List ℕ)
or_else (Some x) other = Some x
or_else None other = other

-- the longest mark in front, and what follows it
unfoldable pub mark_front : List ℕ → Option (Mark × List ℕ)
mark_front s = or_else (three_front s) (or_else (two_front s) (one_front s))

abbrev pub taken : Mark → List ℕ → Mark × List ℕ
taken m text = (m, chars text)

-- no mark is in front
abbrev pub HasNoMark : List ℕ → Type 0
HasNoMark s = (m : Mark) (rest : List ℕ) → s ≡ spelling m ++ rest → ⊥
