-- Bytes spell one script, or are refused for one reason.
use Rattle.std.proofs.Common.{◌≡◌, ℕ, false, List, length, ◌⊎◌, inl, inr, refl, sym, ap, ◌∙◌, subst}
use Rattle.js_lex.specs.declared.token.LexFault.{LexFault}
use Rattle.js_lex.specs.declared.token.Token.{Token as Lexed}
use Rattle.js_lex.specs.Tokens.{LexFaultOf, TokensOf}
use Rattle.js_lex.proofs.OneList as lexer
use Rattle.js_lex.proofs.SomeAnswer as lexed
use Rattle.parse_syntax.specs.Reader.{Answer, Got, Bad, SyntaxFaultKind, read_whole}
use Rattle.parse_syntax.specs.Refused.{IsRefused}
use Rattle.parse_syntax.proofs.One as grammar
use Rattle.parse_syntax.specs.declared.token.GrammarToken.{GrammarToken}
use Rattle.eval_tree.specs.Tree.{Tree, StmtTree, Stmts, stmts}
use Rattle.parse_syntax.specs.Tables.{TokenTables}
use Rattle.parse_syntax.specs.Grammar.{Statements, own_names, most}
use Rattle.parse_syntax.specs.Reading.{read_statements}
use Rattle.js_parse.specs.Names.{NameFault}
use Rattle.parse_syntax.proofs.Scripts.{one_list, all_read, refuses}
use Rattle.parse_tokens.specs.Tokens.{HasTokens, nothing, tokens_from, after_all}
use Rattle.parse_tokens.proofs.OneSource.{same_source}
use Rattle.js_parse.specs.declared.fault.Role.{Role}
use Rattle.js_parse.specs.declared.fault.ParseFault.{ParseFault}
use Rattle.js_parse.specs.declared.fault.ParseFault.TheVariants as fault
use Rattle.js_parse.specs.FirstFault.{HasNameFault, IsFirstFault}
use Rattle.js_parse.specs.Spells.{Parses, Spells, Refused, lexical, grammatical, of_names, prints, misplaced, misnamed}
use Rattle.js_parse.specs.Told.{front_of}
use Rattle.js_parse.proofs.Fronts.{front_is, grammatical_at}
use Rattle.js_parse.proofs.First.{right_or_first, one_first}

module _ (r : Role) (bytes : List ℕ) where
  same_tree : (x y : Tree) → x.literals ≡ y.literals → x.body ≡ y.body → x.top ≡ y.top → x ≡ y
  same_tree x y a b c =
      let make : List (List ℕ) → Stmts → List (List ℕ) → Tree = λ l b t. record { literals = l; body = b; top = t } in
      ap (λ l. make l x.body x.top) a ∙ (ap (λ s. make y.literals s x.top) b ∙ ap (λ t. make y.literals y.body t) c)

  same_tables : (x y : TokenTables) → x.names ≡ y.names → x.keys ≡ y.keys → x ≡ y
  same_tables x y a b =
      let make : List (List ℕ) → List (List ℕ) → TokenTables = λ n k. record { names = n; keys = k } in
      ap (λ n. make n x.keys) a ∙ ap (λ k. make y.names k) b

  -- what the same bytes are read as is the same
  record Same (ts us : List GrammarToken) (xs ys : List (List ℕ)) (a b : TokenTables) : Type 0 where
    tokens : ts ≡ us
    literals : xs ≡ ys
    tables : a ≡ b

  one_source : (ts us : List GrammarToken) (xs ys : List (List ℕ)) (a b : TokenTables) → HasTokens bytes ts xs a.names a.keys → HasTokens bytes us ys b.names b.keys → Same ts us xs ys a b
  one_source ts us xs ys a b p q =
      let same = same_source bytes ts us xs ys a.names b.names a.keys b.keys p q in
      record { tokens = same.0; literals = same.1; tables = same_tables a b same.2 same.3 }

  -- what the same bytes parse to is the same
  one_parse : (x y : Tree) → Parses r bytes x → Parses r bytes y → x ≡ y
  one_parse x y p q =
      let same = one_source p.tokens q.tokens x.literals y.literals p.tables q.tables p.reads q.reads in
      let parsed : Statements p.tables (prints r) most p.tokens q.statements = subst
      (λ n. Statements n (prints r) most p.tokens q.statements) (sym same.tables)
      (subst (λ t. Statements q.tables (prints r) most t q.statements) (sym same.tokens) q.parsed) in
      let lines : p.statements ≡ q.statements = one_list p.tables (prints r) most most p.tokens p.statements q.statements p.parsed parsed in
      same_tree x y same.literals (p.body ∙ (ap stmts lines ∙ sym q.body)) (p.top ∙ (ap own_names lines ∙ sym q.top))

  -- what holds of one parse holds of the other
  carried : (P : TokenTables → List GrammarToken → Tree → Type 0) (x y : Tree) (p : Parses r bytes x) (q : Parses r bytes y) → P q.tables q.tokens y → P p.tables p.tokens x
  carried P x y p q h =
      let same = one_source p.tokens q.tokens x.literals y.literals p.tables q.tables p.reads q.reads in
      subst (λ a. P a p.tokens x) (sym same.tables) (subst (λ t. P q.tables t x) (sym same.tokens) (subst (λ z. P q.tables q.tokens z) (sym (one_parse x y p q)) h))

  -- the same tokens and tables
  same_refusal : (ts us : List GrammarToken) (xs ys : List (List ℕ)) (a b : TokenTables) (k : SyntaxFaultKind) (rest : List GrammarToken) →
      HasTokens bytes ts xs a.names a.keys → HasTokens bytes us ys b.names b.keys → IsRefused (Statements b (prints r)) most us k rest →
      IsRefused (Statements a (prints r)) most ts k rest
  same_refusal ts us xs ys a b k rest p q h =
      let same = one_source ts us xs ys a b p q in
      subst (λ n. IsRefused (Statements n (prints r)) most ts k rest) (sym same.tables) (subst (λ t. IsRefused (Statements b (prints r)) most t k rest) (sym same.tokens) h)

  not_parsed : (x : Tree) (ts : List GrammarToken) (xs : List (List ℕ)) (a : TokenTables) (k : SyntaxFaultKind) (rest : List GrammarToken) →
      Parses r bytes x → HasTokens bytes ts xs a.names a.keys → IsRefused (Statements a (prints r)) most ts k rest → ⊥
  not_parsed x ts xs a k rest p q h = grammar.not_both (Statements p.tables (prints r)) most p.tokens p.statements k rest p.parsed
      (same_refusal p.tokens ts x.literals xs p.tables a k rest p.reads q h)

  no_fault : (ts : List GrammarToken) (xs ns ks : List (List ℕ)) (f : LexFault) → HasTokens bytes ts xs ns ks → LexFaultOf bytes f → ⊥
  no_fault ts xs ns ks f a h = lexer.apart bytes a.lexed f a.lexes h

module _ (r : Role) (outer : List (List ℕ)) (bytes : List ℕ) where
  pub one_script : (x y : Tree) → Spells r outer bytes x → Spells r outer bytes y → x ≡ y
  one_script x y p q = one_parse r bytes x y p.parses q.parses

  pub no_refused_script : (x : Tree) (e : ParseFault) → Spells r outer bytes x → Refused r outer bytes e → ⊥
  no_refused_script x _ p (lexical f h) = no_fault r bytes p.parses.tokens x.literals p.parses.tables.names p.parses.tables.keys f p.parses.reads h
  no_refused_script x _ p (grammatical ts xs a k rest q h) = not_parsed r bytes x ts xs a k rest p.parses q h
  no_refused_script x _ p (of_names y f q h) = p.innocent f (carried r bytes (λ a ts t. HasNameFault outer a ts t f) x y p.parses q h.has)

  pub one_refusal : (d e : ParseFault) → Refused r outer bytes d → Refused r outer bytes e → d ≡ e
  one_refusal _ _ (lexical f h) (lexical g i) = ap fault.Lex (lexer.one_lex_fault bytes f g h i)
  one_refusal _ _ (lexical f h) (grammatical ts xs a k rest q i) = absurd (no_fault r bytes ts xs a.names a.keys f q h)
  one_refusal _ _ (lexical f h) (of_names y g q i) = absurd (no_fault r bytes q.tokens y.literals q.tables.names q.tables.keys f q.reads h)
  one_refusal _ _ (grammatical ts xs a k rest q i) (lexical f h) = absurd (no_fault r bytes ts xs a.names a.keys f q h)
  one_refusal _ _ (of_names y g q i) (lexical f h) = absurd (no_fault r bytes q.tokens y.literals q.tables.names q.tables.keys f q.reads h)
  one_refusal _ _ (grammatical ts xs a k rest p h) (grammatical us ys b j left q i) =
      let same = grammar.one_refusal (Statements a (prints r)) most ts k j rest left h (same_refusal r bytes ts us xs ys a b j left p q i) in
      let source = one_source r bytes ts us xs ys a b p q in
      ap (λ v. misplaced k v rest (length bytes)) (sym (front_is ts h.front rest h.whole))
      ∙ ap (λ v. misplaced v (front_of ts rest) rest (length bytes)) same.0
      ∙ ap (λ v. misplaced j (front_of ts v) v (length bytes)) same.1
      ∙ ap (λ v. misplaced j (front_of v left) left (length bytes)) source.tokens
      ∙ ap (λ v. misplaced j v left (length bytes)) (front_is us i.front left i.whole)
  one_refusal _ _ (grammatical ts xs a k rest p h) (of_names y g q i) = absurd (not_parsed r bytes y ts xs a k rest q p h)
  one_refusal _ _ (of_names y g q i) (grammatical ts xs a k rest p h) = absurd (not_parsed r bytes y ts xs a k rest q p h)
  one_refusal _ _ (of_names x f p h) (of_names y g q i) = ap misnamed (one_first outer p.tables p.tokens x f g h (carried r bytes (λ a ts t. IsFirstFault outer a ts t g) x y p q i))

  of_tree : (x : Tree) (p : Parses r bytes x) → ((f : NameFault) → HasNameFault outer p.tables p.tokens x f → ⊥) ⊎ ((f : NameFault) ×
      IsFirstFault outer p.tables p.tokens x f) → ((y : Tree) × Spells r outer bytes y) ⊎ ((e : ParseFault) × Refused r outer bytes e)
  of_tree x p (inl none) = inl (x, record { parses = p; innocent = none })
  of_tree x p (inr h) = inr (misnamed h.0, of_names x h.0 p h.1)

  of_tokens : (ts : List GrammarToken) (xs : List (List ℕ)) (a : TokenTables) → HasTokens bytes ts
      xs a.names a.keys → (q : Answer GrammarToken (List StmtTree)) → read_whole (read_statements a (prints r) most)
      ts ≡ q → ((y : Tree) × Spells r outer bytes y) ⊎ ((e : ParseFault) × Refused r outer bytes e)
  of_tokens ts xs a p (Got lines rest) e =
      let x : Tree = record { literals = xs; body = stmts lines; top = own_names lines } in
      of_tree x (record { tokens = ts; tables = a; statements = lines; reads = p; parsed = all_read a (prints r) most ts lines rest e; body = refl; top = refl }) (right_or_first outer a ts x)
  of_tokens ts xs a p (Bad k rest) e = inr (misplaced k (front_of ts rest) rest (length bytes), grammatical_at r outer bytes ts xs a k rest p (refuses a (prints r) most ts k rest e))

  of_text : ((ts : List Lexed) × TokensOf bytes ts) ⊎ ((f : LexFault) × LexFaultOf bytes f) → ((y : Tree) × Spells r outer bytes y) ⊎ ((e : ParseFault) × Refused r outer bytes e)
  of_text (inl h) =
      let last = after_all bytes false nothing h.0 in
      of_tokens (tokens_from bytes false nothing h.0) last.texts (record { names = last.names; keys = last.keys })
      (record { lexed = h.0; lexes = h.1; tokens_are = refl; literals_are = refl; names_are = refl; keys_are = refl }) _ refl
  of_text (inr h) = inr (fault.Lex h.0, lexical h.0 h.1)

  pub some_answer : ((y : Tree) × Spells r outer bytes y) ⊎ ((e : ParseFault) × Refused r outer bytes e)
  some_answer = of_text (lexed.some_answer bytes)
