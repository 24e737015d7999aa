-- Keys of object literals that are `__proto__`, over the tokens of a script: the profile has no prototypes.
use Rattle.std.specs.Prelude.{◌≡◌, ℕ, List, [], ◌∷◌, codes, get_or, Bool, true, false, ◌||◌}
use Rattle.std.specs.Str.{bytes_eq}
use Rattle.js_lex.specs.declared.token.Mark.TheVariants.{OpenBrace, Comma, Colon}
use Rattle.parse_syntax.specs.declared.token.GrammarToken.{GrammarToken}
use Rattle.parse_syntax.specs.declared.token.GrammarKind.TheVariants as kind
use Rattle.parse_syntax.specs.Tables.{TokenTables}
use Rattle.parse_syntax.specs.Terminals.{is_mark}

-- whether the key is __proto__; that of a number has digits alone
abbrev pub is_proto : TokenTables → GrammarToken → Bool
is_proto tables t = elim t.kind [
  | kind.Text n k ↦ bytes_eq (get_or tables.keys n []) (codes "__proto__")
  | kind.Name n p ↦ bytes_eq (get_or tables.names n []) (codes "__proto__")
  | kind.Word w n ↦ bytes_eq (get_or tables.names n []) (codes "__proto__")
  | _ ↦ false
]

-- among the tokens such a key is at this place: behind { or a comma, and before a colon
pub data HasProtoKey (tables : TokenTables) : List GrammarToken → ℕ → Type 0 where
  here : (b k c : GrammarToken) (ts : List GrammarToken) → (is_mark OpenBrace b || is_mark Comma b) ≡ true
      → is_proto tables k ≡ true → is_mark Colon c ≡ true → HasProtoKey tables (b ∷ k ∷ c ∷ ts) k.at
  later : (t : GrammarToken) (ts : List GrammarToken) (at : ℕ) → HasProtoKey tables ts at
      → HasProtoKey tables (t ∷ ts) at
