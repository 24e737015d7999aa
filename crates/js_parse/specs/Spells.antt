-- Which bytes spell which script, and which are refused.
use Rattle.std.specs.Prelude.{◌≡◌, ℕ, ◌-◌, List, [], ◌∷◌, length, drop, Bool, true, false, if◌then◌else◌}
use Rattle.std.specs.Prelude.{Option, Some, None}
use Rattle.js_lex.specs.declared.token.LexFault.{LexFault}
use Rattle.js_lex.specs.Tokens.{LexFaultOf}
use Rattle.parse_syntax.specs.Reader.{SyntaxFaultKind, Wrong, TooDeep}
use Rattle.parse_syntax.specs.Refused.{IsRefused}
use Rattle.parse_syntax.specs.declared.token.GrammarToken.{GrammarToken}
use Rattle.parse_syntax.specs.Tables.{TokenTables}
use Rattle.parse_syntax.specs.Terminals.{is_mark, is_word_token}
use Rattle.eval_tree.specs.Tree.{Tree, StmtTree, stmts}
use Rattle.parse_syntax.specs.Grammar.{Statements, own_names, most}
use Rattle.js_parse.specs.Names.{NameFault, Duplicate, LoopName, ProtoKey}
use Rattle.parse_tokens.specs.Tokens.{HasTokens}
use Rattle.js_parse.specs.declared.fault.Role.{Role}
use Rattle.js_parse.specs.declared.fault.Role.TheVariants as role
use Rattle.js_parse.specs.declared.fault.ParseFault.{ParseFault}
use Rattle.js_parse.specs.declared.fault.ParseFault.TheVariants as fault
use Rattle.js_parse.specs.FirstFault.{HasNameFault, IsFirstFault}
use Rattle.js_lex.specs.declared.token.Mark.TheVariants.{Point, OpenParen}

-- a prelude has no print
abbrev pub prints : Role → Bool
prints role.Prelude = false
prints role.Main = true

-- the bytes are of the grammar, and give this tree
pub record Parses (r : Role) (bytes : List ℕ) (script : Tree) : Type 0 where
  pub tokens : List GrammarToken
  pub tables : TokenTables
  pub statements : List StmtTree
  pub reads : HasTokens bytes tokens script.literals tables.names tables.keys
  pub parsed : Statements tables (prints r) most tokens statements
  pub body : script.body ≡ stmts statements
  pub top : script.top ≡ own_names statements

-- the bytes spell the script in this role, after a prelude that declares the outer names
pub record Spells (r : Role) (outer : List (List ℕ)) (bytes : List ℕ) (script : Tree) : Type 0 where
  pub parses : Parses r bytes script
  pub innocent : (f : NameFault) → HasNameFault outer parses.tables parses.tokens script f → ⊥

-- of a point and an identifier the place of the identifier
abbrev pub pointed : List GrammarToken → Option ℕ
pointed (p ∷ t ∷ []) = if is_mark Point p then (if is_word_token t then Some t.at else None) else None
pointed _ = None

-- the identifier behind a point that ends the front, where ( follows. Where it is a method, ( is never wrong
abbrev pub called_word : List GrammarToken → GrammarToken → Option ℕ
called_word front t = if is_mark OpenParen t then pointed (drop (length front - 2) front) else None

-- a token isn't allowed there: an identifier that is called so is at fault in its place
abbrev pub misplaced_at : Option ℕ → GrammarToken → ParseFault
misplaced_at (Some at) t = fault.NotInProfile at
misplaced_at None t = if is_word_token t then fault.NotInProfile t.at else fault.Unexpected t.at

-- the fault at the first token of the rest behind the front, or at the end of the text
abbrev pub misplaced : SyntaxFaultKind → List GrammarToken → List GrammarToken → ℕ → ParseFault
misplaced Wrong front [] end = fault.Unexpected end
misplaced Wrong front (t ∷ rest) end = misplaced_at (called_word front t) t
misplaced TooDeep front [] end = fault.TooDeep end
misplaced TooDeep front (t ∷ rest) end = fault.TooDeep t.at

-- how a fault of a name or key is reported; a key that is __proto__ isn't in the profile
abbrev pub misnamed : NameFault → ParseFault
misnamed (Duplicate at) = fault.Duplicate at
misnamed (LoopName at) = fault.LoopName at
misnamed (ProtoKey at) = fault.NotInProfile at

-- the bytes spell no script, for this reason: the first lexical fault; where there is none, the place from
-- which on the tokens begin no script; where they are one, the first fault of its names and keys
pub data Refused (r : Role) (outer : List (List ℕ)) (bytes : List ℕ) : ParseFault → Type 0 where
  lexical : (f : LexFault) → LexFaultOf bytes f → Refused r outer bytes (fault.Lex f)
  grammatical : (tokens : List GrammarToken) (literals : List (List ℕ)) (tables : TokenTables)
      (kind : SyntaxFaultKind)
      (rest : List GrammarToken) → HasTokens bytes tokens literals tables.names tables.keys
      → (refused : IsRefused (Statements tables (prints r)) most tokens kind rest)
      → Refused r outer bytes (misplaced kind refused.front rest (length bytes))
  of_names : (script : Tree) (f : NameFault) (p : Parses r bytes script)
      → IsFirstFault outer p.tables p.tokens script f → Refused r outer bytes (misnamed f)
