-- From the faults of the calls to that of the whole.
use Rattle.std.proofs.Common.{◌≡◌, ◌∙◌, sym, ℕ, List, length, map, refl, ap, subst, ◌⊎◌, inl, inr, Bool, Err, Option, None}
use Rattle.js_lex.specs.declared.token.LexFault.{LexFault}
use Rattle.js_lex.specs.declared.token.LexFault.TheVariants as lex
use Rattle.js_lex.specs.Tokens.{LexFaultOf}
use Rattle.parse_syntax.specs.Reader.{SyntaxFaultKind, Wrong, TooDeep}
use Rattle.parse_syntax.specs.Refused.{IsRefused}
use Rattle.parse_statements.specs.declared.fault.Fault.{Fault}
use Rattle.parse_statements.specs.declared.fault.Fault.TheVariants as parser
use Rattle.parse_statements.specs.Gives.{OnFault}
use Rattle.parse_syntax.specs.declared.token.GrammarToken.{GrammarToken}
use Rattle.parse_syntax.specs.Tables.{TokenTables}
use Rattle.parse_syntax.specs.Grammar.{Statements, own_names, most}
use Rattle.eval_tree.specs.declared.tree.Script.{Script}
use Rattle.eval_tree.specs.declared.tree.Stmt.{Stmt}
use Rattle.eval_tree.specs.Tree.{tree_of, stmt_tree, stmts_tree}
use Rattle.js_parse.specs.Names.{NameFault}
use Rattle.js_parse.specs.NameFaults.{offers, proto_faults}
use Rattle.parse_tokens.specs.Tokens.{HasTokens}
use Rattle.js_parse.specs.declared.fault.Role.{Role}
use Rattle.js_parse.specs.declared.fault.ParseFault.{ParseFault}
use Rattle.js_parse.specs.Spells.{lexical, prints}
use Rattle.js_parse.proofs.Fronts.{grammatical_at}
use Rattle.js_parse.specs.Told.{lex_fault, grammar_fault, IsRefusal, ParsesWith}

pub lex_refused : (role : Role) (bytes : List ℕ) (f : LexFault) → (f ≡ lex.Memory) ⊎ LexFaultOf bytes f → IsRefusal role bytes (lex_fault f)
lex_refused role bytes f (inl e) = inl (ap lex_fault e)
lex_refused role bytes lex.Memory (inr h) = inl refl
lex_refused role bytes (lex.NotUtf8 at) (inr h) = inr (λ outer. lexical (lex.NotUtf8 at) h)
lex_refused role bytes (lex.BadCharacter at) (inr h) = inr (λ outer. lexical (lex.BadCharacter at) h)
lex_refused role bytes (lex.OpenComment at) (inr h) = inr (λ outer. lexical (lex.OpenComment at) h)
lex_refused role bytes (lex.Literal f) (inr h) = inr (λ outer. lexical (lex.Literal f) h)
lex_refused role bytes (lex.Number f) (inr h) = inr (λ outer. lexical (lex.Number f) h)

-- what the parser says of a fault
abbrev pub Says : Fault → (SyntaxFaultKind → List GrammarToken → Type 0) → Type 0
Says parser.Memory P = Unit {0}
Says (parser.Wrong rest) P = P Wrong rest.now
Says (parser.TooDeep rest) P = P TooDeep rest.now

pub grammar_refused : (role : Role) (bytes : List ℕ) (end : ℕ) (ts : List GrammarToken) (literals : List
    (List ℕ)) (tables : TokenTables) (f : Fault) → end ≡ length bytes → HasTokens bytes ts literals tables.names tables.keys → Says f
    (IsRefused (Statements tables (prints role)) most ts) → IsRefusal role bytes (grammar_fault f ts end)
grammar_refused role bytes end ts literals tables parser.Memory e reads h = inl refl
grammar_refused role bytes end ts literals tables (parser.Wrong rest) e reads h = rw e (inr (λ outer. grammatical_at role outer bytes ts literals tables Wrong rest.now reads h))
grammar_refused role bytes end ts literals tables (parser.TooDeep rest) e reads h = rw e (inr (λ outer. grammatical_at role outer bytes ts literals tables TooDeep rest.now reads h))

pub says_of : (f : Fault) (P : SyntaxFaultKind → List GrammarToken → Type 0) → OnFault {X = ℕ} (Err f) P → Says f P
says_of parser.Memory P h = tt
says_of (parser.Wrong rest) P h = h
says_of (parser.TooDeep rest) P h = h

-- the same of what the calls gave
pub grammar_told : (role : Role) (bytes : List ℕ) (ts tokens others : List GrammarToken) (literals : List
    (List ℕ)) (tables : TokenTables) (printing : Bool) (f : Fault) (r : ParseFault) → printing ≡ prints role → tokens ≡ ts → others ≡ ts →
    HasTokens bytes ts literals tables.names tables.keys → Says f (IsRefused (Statements tables printing) most tokens) → r ≡ grammar_fault f
    others (length bytes) → IsRefusal role bytes r
grammar_told role bytes ts tokens others literals tables printing f r p t o reads h e =
    let P : Bool → List GrammarToken → Type 0 = λ b us. Says f (IsRefused (Statements tables b) most us) in
    let a : P (prints role) tokens = subst (λ b. P b tokens) p h in
    let b : P (prints role) ts = subst (λ us. P (prints role) us) t a in
    rw (e, o) (grammar_refused role bytes (length bytes) ts literals tables f refl reads b)

-- the tree and the first key that is __proto__
pub parses_with : (role : Role) (bytes : List ℕ) (ts tokens others : List GrammarToken) (literals : List
    (List ℕ)) (tables : TokenTables) (printing : Bool) (x : Script) (body : List Stmt) (found : Option NameFault) → printing ≡ prints role →
    tokens ≡ ts → others ≡ ts → HasTokens bytes ts literals tables.names tables.keys → Statements tables printing most tokens
    (map stmt_tree body) → x.literals.items ≡ literals → x.body.items ≡ body → x.top ≡ own_names (map stmt_tree body) → found ≡ offers None
    (proto_faults tables others) → ParsesWith role bytes (tree_of x) found
parses_with role bytes ts tokens others literals tables printing x body found p t o reads h l b top f = record {
  parses = record {
    tokens = ts;
    tables = tables;
    statements = map stmt_tree body;
    reads = subst (λ q. HasTokens bytes ts q tables.names tables.keys) (sym l) reads;
    parsed = subst (λ q. Statements tables q most ts (map stmt_tree body)) p (subst (λ us. Statements tables printing most us (map stmt_tree body)) t h);
    body = ap (λ (q : List Stmt). stmts_tree q) b;
    top = top;
  };
  finds = f ∙ ap (λ us. offers None (proto_faults tables us)) o;
}
