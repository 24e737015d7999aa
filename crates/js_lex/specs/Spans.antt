-- What a token's span holds: spans lie in order, and each token's text is its slice of the source.
use Rattle.std.specs.Prelude.{◌≡◌, ℕ, ◌-◌, ◌<◌, ◌≤◌, List, [], ◌∷◌, ◌++◌, Bool, true, false, ◌&&◌, length}
use Rattle.std.specs.Prelude.{take, drop}
use Rattle.std.specs.List.{list_all}
use Rattle.js_literal.specs.Place.{StandsAt}
use Rattle.js_literal.specs.Literal.{LiteralOf}
use Rattle.js_literal.specs.Number.{is_word_start, NumberOf}
use Rattle.js_lex.specs.Elements.{is_word_part}
use Rattle.js_lex.specs.Marks.{spelling, IsLongest}
use Rattle.js_lex.specs.declared.token.Mark.{Mark}
use Rattle.js_lex.specs.declared.token.Token.{Token}
use Rattle.js_lex.specs.declared.token.TokenKind.{TokenKind}
use Rattle.js_lex.specs.declared.token.TokenKind.TheVariants as kinds

-- each span has a byte at least, begins at byte at or where the one before ends or later, and ends within the
-- text
abbrev pub InOrder : List ℕ → ℕ → List Token → Type 0
InOrder text at [] = Unit {0}
InOrder text at (t ∷ ts) = (at ≤ t.from) × (t.from < t.to) × (t.to ≤ length text) × InOrder text t.to ts

-- the span has a byte at least, and ends within the text
abbrev pub IsWithin : List ℕ → Token → Type 0
IsWithin text t = (t.from < t.to) × (t.to ≤ length text)

-- the bytes from one place up to another
abbrev pub slice : List ℕ → ℕ → ℕ → List ℕ
slice bytes from to = take (to - from) (drop from bytes)

-- an identifier start and then identifier parts
abbrev pub is_identifier : List ℕ → Bool
is_identifier [] = false
is_identifier (c ∷ w) = is_word_start c && list_all is_word_part w

abbrev pub begins_word_part : List ℕ → Bool
begins_word_part [] = false
begins_word_part (c ∷ s) = is_word_part c

-- an identifier, which no identifier part follows
pub record IsWordAt (bytes : List ℕ) (from to : ℕ) : Type 0 where
  pub word : is_identifier (slice bytes from to) ≡ true
  pub rest : List ℕ
  pub ends : StandsAt bytes to rest
  pub whole : begins_word_part rest ≡ false

-- a mark, which is the longest one there
pub record IsMarkAt (bytes : List ℕ) (from to : ℕ) (m : Mark) : Type 0 where
  pub spelled : slice bytes from to ≡ spelling m
  pub rest : List ℕ
  pub ends : StandsAt bytes to rest
  pub longest : IsLongest (spelling m ++ rest) m rest

-- a token of this kind is spelled by the bytes from one place up to another
abbrev pub IsSpelledAt : List ℕ → ℕ → ℕ → TokenKind → Type 0
IsSpelledAt bytes from to kinds.Word = IsWordAt bytes from to
IsSpelledAt bytes from to (kinds.Text us) = LiteralOf bytes from us to
IsSpelledAt bytes from to (kinds.Number v) = NumberOf bytes from v to
IsSpelledAt bytes from to (kinds.Mark m) = IsMarkAt bytes from to m

-- the token's text is its slice of the bytes
abbrev pub HasItsText : List ℕ → Token → Type 0
HasItsText bytes t = IsSpelledAt bytes t.from t.to t.kind
