-- The tokens of a text and its first lexical fault (ECMA-262, "Lexical Grammar": from the left, each element
-- as long as possible).
use Rattle.std.specs.Prelude.{◌≡◌, ℕ, List, [], ◌∷◌, ◌++◌, true, false, Some, None, ◌==◌, ◌&&◌, ◌||◌, not}
use Rattle.std.specs.Prelude.{IsUtf8}
use Rattle.std.specs.Str.Lossy.{utf8_valid_len}
use Rattle.js_literal.specs.Place.{StandsAt}
use Rattle.js_literal.specs.Literal.{is_quote, begins_with, LiteralOf, LiteralFaultOf}
use Rattle.js_literal.specs.Number.{is_word_start, begins_number, after_run, NumberOf, NumberFaultOf}
use Rattle.js_literal.specs.declared.fault.LiteralFault.{LiteralFault}
use Rattle.js_literal.specs.declared.fault.NumberFault.{NumberFault}
use Rattle.js_lex.specs.Elements.{is_line_end, is_word_part, after_block}
use Rattle.js_lex.specs.Marks.{spelling, IsLongest}
use Rattle.js_lex.specs.declared.token.Mark.{Mark}
use Rattle.js_lex.specs.declared.token.Token.{Token}
use Rattle.js_lex.specs.declared.token.TokenKind.{TokenKind}
use Rattle.js_lex.specs.declared.token.TokenKind.TheVariants as kinds
use Rattle.js_lex.specs.declared.token.LexFault.{LexFault}
use Rattle.js_lex.specs.declared.token.LexFault.TheVariants as faults
use Rattle.js_units.specs.Text.{is_blank}

-- what is at a place: the end, what separates tokens, a token, or a fault; with the place behind it
pub data Element : Type 0 where
  End : Element
  Skip : ℕ → Element
  TokenOf : TokenKind → ℕ → Element
  Fault : LexFault → Element

-- neither a blank, nor a comment, nor what a token begins with
abbrev pub IsBad : ℕ → List ℕ → Type 0
IsBad c s = (is_blank c ≡ false) × (is_word_start c ≡ false) × (is_quote c ≡ false)
    × (begins_number (c ∷ s) ≡ false) × ((c == 47 && begins_with (λ d. d == 47 || d == 42) s) ≡ false)
    × ((m : Mark) (rest : List ℕ) → c ∷ s ≡ spelling m ++ rest → ⊥)

-- what is at byte at of the text ("InputElementDiv", and the faults)
pub data ElementAt (text : List ℕ) (at : ℕ) : Element → Type 0 where
  ended : StandsAt text at [] → ElementAt text at End
  blank : (c : ℕ) (s : List ℕ) (end : ℕ) → StandsAt text at (c ∷ s) → is_blank c ≡ true → StandsAt text end s
      → ElementAt text at (Skip end)
  -- from // up to the next line end, which is a blank, or up to the end
  line : (s : List ℕ) (end : ℕ) → StandsAt text at (47 ∷ 47 ∷ s)
      → StandsAt text end (after_run (λ c. not (is_line_end c)) s) → ElementAt text at (Skip end)
  -- from /* to the next */ behind it
  block : (s rest : List ℕ) (end : ℕ) → StandsAt text at (47 ∷ 42 ∷ s) → after_block s ≡ Some rest
      → StandsAt text end rest → ElementAt text at (Skip end)
  open_block : (s : List ℕ) → StandsAt text at (47 ∷ 42 ∷ s) → after_block s ≡ None
      → ElementAt text at (Fault (faults.OpenComment at))
  word : (c : ℕ) (s : List ℕ) (end : ℕ) → StandsAt text at (c ∷ s) → is_word_start c ≡ true
      → StandsAt text end (after_run is_word_part s) → ElementAt text at (TokenOf kinds.Word end)
  string : (us : List ℕ) (end : ℕ) → LiteralOf text at us end
      → ElementAt text at (TokenOf (kinds.Text us) end)
  string_fault : (f : LiteralFault) → LiteralFaultOf text at f → ElementAt text at (Fault (faults.Literal f))
  number : (value end : ℕ) → NumberOf text at value end → ElementAt text at (TokenOf (kinds.Number value) end)
  number_fault : (f : NumberFault) → NumberFaultOf text at f → ElementAt text at (Fault (faults.Number f))
  -- a point that a digit follows begins a number
  mark : (s : List ℕ) (m : Mark) (rest : List ℕ) (end : ℕ) → StandsAt text at s → begins_number s ≡ false
      → IsLongest s m rest → StandsAt text end rest → ElementAt text at (TokenOf (kinds.Mark m) end)
  bad : (c : ℕ) (s : List ℕ) → StandsAt text at (c ∷ s) → IsBad c s
      → ElementAt text at (Fault (faults.BadCharacter at))

-- from a place on, the text has these tokens
pub data Lexes (text : List ℕ) : ℕ → List Token → Type 0 where
  done : (at : ℕ) → ElementAt text at End → Lexes text at []
  skip : (at mid : ℕ) (ts : List Token) → ElementAt text at (Skip mid) → Lexes text mid ts → Lexes text at ts
  token : (at mid : ℕ) (k : TokenKind) (ts : List Token) → ElementAt text at (TokenOf k mid)
      → Lexes text mid ts → Lexes text at (record { kind = k; from = at; to = mid } ∷ ts)

-- from a place on, this is the first fault
pub data FailsFrom (text : List ℕ) : ℕ → LexFault → Type 0 where
  fault : (at : ℕ) (f : LexFault) → ElementAt text at (Fault f) → FailsFrom text at f
  skip_on : (at mid : ℕ) (f : LexFault) → ElementAt text at (Skip mid) → FailsFrom text mid f
      → FailsFrom text at f
  token_on : (at mid : ℕ) (k : TokenKind) (f : LexFault) → ElementAt text at (TokenOf k mid)
      → FailsFrom text mid f → FailsFrom text at f

-- the bytes are a text with these tokens
pub record TokensOf (bytes : List ℕ) (ts : List Token) : Type 0 where
  pub utf8 : IsUtf8 bytes
  pub lexes : Lexes bytes 0 ts

-- the bytes are no text, at the first sequence that isn't well formed, or a text whose first fault is this
pub data LexFaultOf (bytes : List ℕ) : LexFault → Type 0 where
  no_text : (IsUtf8 bytes → ⊥) → LexFaultOf bytes (faults.NotUtf8 (utf8_valid_len bytes))
  in_text : (f : LexFault) → IsUtf8 bytes → FailsFrom bytes 0 f → LexFaultOf bytes f
