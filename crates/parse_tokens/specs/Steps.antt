-- What the functions give.
use Rattle.std.specs.Prelude.{◌≡◌, ℕ, List, [], ◌∷◌, ◌++◌, Bool, true, false}
use Rattle.std.specs.List.{list_any, position}
use Rattle.std.specs.Str.{bytes_eq, chars}
use Rattle.std.specs.Ordering.{nat_cmp}
use Rattle.std.specs.Cmp.Lexicographic.{slice_cmp}
use Rattle.std.specs.FinMap.{FinMap, get}
use Rattle.js_lex.specs.declared.token.Token.{Token as Lexed}
use Rattle.js_lex.specs.declared.token.TokenKind.{TokenKind}
use Rattle.js_lex.specs.declared.token.TokenKind.TheVariants as kinds
use Rattle.js_lex.specs.declared.token.Mark.TheVariants as mark
use Rattle.js_lex.specs.Elements.{is_line_end}
use Rattle.js_lex.specs.Tokens.{Lexes}
use Rattle.parse_syntax.specs.declared.token.GrammarToken.{GrammarToken}
use Rattle.parse_tokens.specs.declared.read.ScriptTokens.{ScriptTokens}
use Rattle.parse_tokens.specs.Tokens.{Before, nothing, is_key, tokens_from, after_all}

-- the numbers are the places in the table
abbrev pub Agrees : FinMap (slice_cmp nat_cmp) ℕ → List (List ℕ) → Type 0
Agrees numbers names = (q : List ℕ) → get numbers q ≡ position (bytes_eq q) names

-- whether a line end is in these bytes of a text
abbrev pub has_line_end : List ℕ → Bool
has_line_end bytes = list_any is_line_end (chars bytes)

-- the token is a colon
abbrev pub is_colon : TokenKind → Bool
is_colon k = elim k [ kinds.Mark mark.Colon ↦ true | _ ↦ false ]

abbrev pub is_empty : {A : Type 0} → List A → Bool
is_empty [] = true
is_empty (x ∷ xs) = false

-- what precedes a place, behind these tokens
abbrev pub before_at : List GrammarToken → List (List ℕ) → List (List ℕ) → List (List ℕ) → ℕ → Before
before_at tokens texts names keys end =
    record { first = is_empty tokens; end = end; names = names; texts = texts; keys = keys }

-- the same behind what was read so far
abbrev pub before_of : ScriptTokens → ℕ → Before
before_of script end =
    before_at script.tokens.items script.literals.items script.names.items script.keys.items end

-- the text has these tokens, and this is what precedes its end
pub record Whole (text : List ℕ) (tokens : List GrammarToken) (last : Before) : Type 0 where
  pub lexed : List Lexed
  pub lexes : Lexes text 0 lexed
  pub tokens_are : tokens ≡ tokens_from text false nothing lexed
  pub last_is : last ≡ after_all text false nothing lexed

-- what completes the rest completes the whole, where { or a comma precedes the rest or not
abbrev pub Goes : List ℕ → ℕ → List GrammarToken → Bool → Before → Type 0
Goes text at done opened before = (ts : List Lexed) → Lexes text at ts
    → Whole text (done ++ tokens_from text opened before ts) (after_all text opened before ts)

-- the text's tokens, literals, names and keys
pub record Scanned (text : List ℕ) (tokens : List GrammarToken)
    (texts names keys : List (List ℕ)) : Type 0 where
  pub lexed : List Lexed
  pub lexes : Lexes text 0 lexed
  pub tokens_are : tokens ≡ tokens_from text false nothing lexed
  pub texts_are : texts ≡ (after_all text false nothing lexed).texts
  pub names_are : names ≡ (after_all text false nothing lexed).names
  pub keys_are : keys ≡ (after_all text false nothing lexed).keys

-- the text's tokens, literals, names and keys are these
abbrev pub ScannedTo : List ℕ → ScriptTokens → Type 0
ScannedTo text script =
    Scanned text script.tokens.items script.literals.items script.names.items script.keys.items

-- these tokens, literals, names and keys
abbrev pub IsScriptTokens : ScriptTokens → List GrammarToken → List (List ℕ) → List (List ℕ)
    → List (List ℕ) → Type 0
IsScriptTokens script tokens texts names keys = (script.tokens.items ≡ tokens)
    × (script.literals.items ≡ texts) × (script.names.items ≡ names) × (script.keys.items ≡ keys)

-- whether the token is a key, whatever tokens the text has behind it
abbrev pub TellsKey : List ℕ → Bool → Lexed → Bool → Type 0
TellsKey text opened token key = (ts : List Lexed) → Lexes text token.to ts
    → key ≡ is_key opened token.kind ts
