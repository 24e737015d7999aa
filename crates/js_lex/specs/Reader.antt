-- Helpers: no public contract reaches these definitions.
-- What the code reads at the front of a text, for the contracts of private functions.
use Rattle.std.specs.Prelude.{ℕ, List, [], ◌∷◌, Bool, Option, Some, None, ◌==◌, ◌||◌, not, if◌then◌else◌}
use Rattle.std.specs.Str.{chars}
use Rattle.js_literal.specs.Literal.{is_quote, begins_with}
use Rattle.js_literal.specs.Number.{is_word_start, begins_number, after_run}
use Rattle.js_lex.specs.Elements.{is_line_end, is_word_part, after_block}
use Rattle.js_lex.specs.MarkReader.{mark_front}
use Rattle.js_lex.specs.declared.token.Mark.{Mark}
use Rattle.js_lex.specs.declared.token.Token.{Token}
use Rattle.js_lex.specs.declared.token.TokenKind.{TokenKind}
use Rattle.js_lex.specs.declared.front.Front.{Front}
use Rattle.js_lex.specs.declared.front.Front.TheVariants as code
use Rattle.js_units.specs.Text.{is_blank}

-- what follows the longest run of identifier parts
abbrev pub after_word : List ℕ → List ℕ
after_word s = after_run is_word_part s

-- from the next line end on
abbrev pub after_line : List ℕ → List ℕ
after_line s = after_run (λ c. not (is_line_end c)) s

-- / or *, which begins a comment behind a slash
abbrev pub begins_comment : List ℕ → Bool
begins_comment s = begins_with (λ c. c == 47 || c == 42) s

-- a token of this kind from one place up to another
abbrev pub token_at : TokenKind → ℕ → ℕ → Token
token_at k at end = record { kind = k; from = at; to = end }

-- the end, what separates tokens, or what a token or a fault begins with, with what follows it
pub data Lookahead : Type 0 where
  End Quote Number Open Bad : Lookahead
  Skip Word : List ℕ → Lookahead
  MarkOf : Mark → List ℕ → Lookahead

abbrev pub block_ahead : Option (List ℕ) → Lookahead
block_ahead None = Open
block_ahead (Some rest) = Skip rest

abbrev pub comment : List ℕ → Lookahead
comment [] = Bad
comment (c ∷ s) = if c == 47 then Skip (after_line s)
    else (if c == 42 then block_ahead (after_block s) else Bad)

abbrev pub mark_ahead : Option (Mark × List ℕ) → Lookahead
mark_ahead None = Bad
mark_ahead (Some p) = MarkOf p.0 p.1

unfoldable pub front : List ℕ → Lookahead
front [] = End
front (c ∷ s) =
    if is_blank c then Skip s else
    (if is_word_start c then Word (after_word s) else
    (if is_quote c then Quote else
    (if begins_number (c ∷ s) then Number else
    (if c == 47 then comment s else
    mark_ahead (mark_front (c ∷ s))))))

abbrev pub lookahead_of : Front → Lookahead
lookahead_of code.End = End
lookahead_of (code.Skip rest) = Skip (chars rest.now)
lookahead_of (code.Word rest) = Word (chars rest.now)
lookahead_of code.Quote = Quote
lookahead_of code.Number = Number
lookahead_of (code.Mark m rest) = MarkOf m (chars rest.now)
lookahead_of code.Open = Open
lookahead_of code.Bad = Bad
