-- Blanks, comments and identifiers, on characters (ECMA-262, "White Space", "Line Terminators", "Comments",
-- "Names and Keywords").
use Rattle.std.specs.Prelude.{ℕ, List, ◌∷◌, Bool, Option, Some, None, ◌==◌, ◌&&◌, ◌||◌, if◌then◌else◌}
use Rattle.js_literal.specs.Literal.{is_digit}
use Rattle.js_literal.specs.Number.{is_word_start}

-- LF, CR, U+2028 and U+2029
abbrev pub is_line_end : ℕ → Bool
is_line_end c = c == 10 || c == 13 || c == 0x2028 || c == 0x2029

-- a letter, _, $ or a digit
abbrev pub is_word_part : ℕ → Bool
is_word_part c = is_word_start c || is_digit c

-- what follows the next */
abbrev pub after_block : List ℕ → Option (List ℕ)
after_block (a ∷ b ∷ s) = if a == 42 && b == 47 then Some s else after_block (b ∷ s)
after_block _ = None
