-- The tokens of the grammar, and how they come from those of the text.
use Rattle.std.specs.Prelude.{◌≡◌, ◌||◌, ℕ, List, [], ◌∷◌, ◌++◌, length, codes, nat_lt, Bool, true, false}
use Rattle.std.specs.Prelude.{Option, Some, None, if◌then◌else◌}
use Rattle.std.specs.Str.{bytes_eq, chars}
use Rattle.std.specs.List.{position_or_len, list_any}
use Rattle.js_lex.specs.declared.token.Token.{Token as Lexed}
use Rattle.js_lex.specs.declared.token.TokenKind.{TokenKind}
use Rattle.js_lex.specs.declared.token.TokenKind.TheVariants as kinds
use Rattle.js_lex.specs.declared.token.Mark.TheVariants as mark
use Rattle.js_lex.specs.Elements.{is_line_end}
use Rattle.js_lex.specs.Spans.{slice}
use Rattle.js_lex.specs.Tokens.{TokensOf}
use Rattle.parse_syntax.specs.declared.token.GrammarToken.{GrammarToken}
use Rattle.parse_syntax.specs.declared.token.GrammarKind.{GrammarKind}
use Rattle.parse_syntax.specs.declared.token.GrammarKind.TheVariants as kind
use Rattle.parse_syntax.specs.declared.token.Word.{Word}
use Rattle.parse_tokens.specs.Words.{word_meant, word_property}

-- The number of an identifier is its place in the table of names,
-- which has each identifier once in source order.

-- where the letters are in a table, or its length
abbrev pub place_in : List (List ℕ) → List ℕ → ℕ
place_in names letters = position_or_len (bytes_eq letters) names

-- the table with the letters, at its end where they weren't in it
abbrev pub with_name : List (List ℕ) → List ℕ → List (List ℕ)
with_name names letters = if nat_lt (place_in names letters) (length names) then names
    else names ++ letters ∷ []

-- what precedes a token
pub record Before : Type 0 where
  -- no token
  pub first : Bool
  -- the place behind the token before
  pub end : ℕ
  pub names : List (List ℕ)
  -- the strings that are no keys, and those that are
  pub texts : List (List ℕ)
  pub keys : List (List ℕ)

-- what precedes the first token
abbrev pub nothing : Before
nothing = record { first = true; end = 0; names = []; texts = []; keys = [] }

-- the spellings of the directive; there is none with an escape (ECMA-262, "Directive Prologues and the Use
-- Strict Directive")
abbrev pub is_use_strict : List ℕ → Bool
is_use_strict source = bytes_eq source (codes "'use strict'") || bytes_eq source (codes "\"use strict\"")

-- A string is the key of a member exactly where { or a comma precedes it and a colon follows it: no
-- statement has a label, and in a conditional a question mark precedes the operand that a colon follows.

-- the token is { or a comma
abbrev pub opens_member : TokenKind → Bool
opens_member k = elim k [ kinds.Mark mark.OpenBrace ↦ true | kinds.Mark mark.Comma ↦ true | _ ↦ false ]

-- the first of the tokens is a colon
abbrev pub begins_colon : List Lexed → Bool
begins_colon [] = false
begins_colon (t ∷ ts) = elim t.kind [ kinds.Mark mark.Colon ↦ true | _ ↦ false ]

-- whether the token is a string that is a key, where { or a comma precedes it or not, and these tokens
-- behind it
abbrev pub is_key : Bool → TokenKind → List Lexed → Bool
is_key opened k ts = elim k [ kinds.Text units ↦ (if opened then begins_colon ts else false) | _ ↦ false ]

-- what a string is, after so many literals and keys: a key, the directive, or a literal
abbrev pub string_kind : Bool → Bool → List (List ℕ) → List (List ℕ) → List ℕ → GrammarKind
string_kind key first texts keys source = if key then kind.Text (length keys) true
    else if first then (if is_use_strict source then kind.Directive else kind.Text (length texts) false)
    else kind.Text (length texts) false

-- the literals behind a string: its units come last, but a key and the directive are left out
abbrev pub texts_with : Bool → Bool → List (List ℕ) → List ℕ → List ℕ → List (List ℕ)
texts_with key first texts source units = if key then texts
    else if first then (if is_use_strict source then texts else texts ++ units ∷ []) else texts ++ units ∷ []

-- an identifier: one that is no name, or a name with what it means behind a point
abbrev pub word_kind : Option Word → List (List ℕ) → List ℕ → GrammarKind
word_kind (Some w) names letters = kind.Word w (place_in names letters)
word_kind None names letters = kind.Name (place_in names letters) (word_property letters)

-- what a token of this source text and kind is to the grammar, where it is a key or not
abbrev pub grammar_kind_of : Before → List ℕ → Bool → TokenKind → GrammarKind
grammar_kind_of before source key kinds.Word = word_kind (word_meant source) before.names source
grammar_kind_of before source key (kinds.Text units) =
    string_kind key before.first before.texts before.keys source
grammar_kind_of before source key (kinds.Number value) = kind.Number value
grammar_kind_of before source key (kinds.Mark mark) = kind.Mark mark

-- the table of names behind a token: an identifier is in it
abbrev pub table_after : Before → List ℕ → TokenKind → List (List ℕ)
table_after before source k = elim k [ kinds.Word ↦ with_name before.names source | _ ↦ before.names ]

-- the literals behind a token, which is a key or not
abbrev pub literals_after : Bool → Before → List ℕ → TokenKind → List (List ℕ)
literals_after key before source k =
    elim k [ kinds.Text units ↦ texts_with key before.first before.texts source units | _ ↦ before.texts ]

-- the keys behind a token: the units of a string that is one come last
abbrev pub keys_after : Bool → Before → TokenKind → List (List ℕ)
keys_after key before k =
    elim k [ kinds.Text units ↦ (if key then before.keys ++ units ∷ [] else before.keys) | _ ↦ before.keys ]

-- the grammar's token for a token of the text, which is a key or not, where this precedes it
abbrev pub grammar_token : List ℕ → Before → Bool → Lexed → GrammarToken
grammar_token bytes before key t = record {
  at = t.from;
  after_line = list_any is_line_end (chars (slice bytes before.end t.from));
  kind = grammar_kind_of before (slice bytes t.from t.to) key t.kind;
}

-- what precedes the token that follows this one
abbrev pub before_next : List ℕ → Before → Bool → Lexed → Before
before_next bytes before key t = record {
  first = false;
  end = t.to;
  names = table_after before (slice bytes t.from t.to) t.kind;
  texts = literals_after key before (slice bytes t.from t.to) t.kind;
  keys = keys_after key before t.kind;
}

-- the tokens, where { or a comma precedes them or not
abbrev pub tokens_from : List ℕ → Bool → Before → List Lexed → List GrammarToken
tokens_from bytes opened before [] = []
tokens_from bytes opened before (t ∷ ts) = grammar_token bytes before (is_key opened t.kind ts) t ∷
    tokens_from bytes (opens_member t.kind) (before_next bytes before (is_key opened t.kind ts) t) ts

-- what follows all these tokens, where { or a comma precedes them or not
abbrev pub after_all : List ℕ → Bool → Before → List Lexed → Before
after_all bytes opened before [] = before
after_all bytes opened before (t ∷ ts) =
    after_all bytes (opens_member t.kind) (before_next bytes before (is_key opened t.kind ts) t) ts

-- the bytes have these tokens, literals, names and keys
pub record HasTokens (bytes : List ℕ) (tokens : List GrammarToken)
    (literals names keys : List (List ℕ)) : Type 0 where
  pub lexed : List Lexed
  pub lexes : TokensOf bytes lexed
  pub tokens_are : tokens ≡ tokens_from bytes false nothing lexed
  pub literals_are : literals ≡ (after_all bytes false nothing lexed).texts
  pub names_are : names ≡ (after_all bytes false nothing lexed).names
  pub keys_are : keys ≡ (after_all bytes false nothing lexed).keys
