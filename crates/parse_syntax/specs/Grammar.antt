-- The grammar of scripts, one line a production.
use Rattle.std.specs.Prelude.{ℕ, zero, suc, Bool, true, false, List, [], ◌∷◌, Option, Some, None}
use Rattle.std.specs.Prelude.{get_or, flat_map}
use Rattle.std.specs.Option.{option_map_or}
use Rattle.parse_syntax.specs.Lang.{Lang, One, Then, Bind, Mapped, Nothing, ◌¦◌, Many, Never, if_room}
use Rattle.parse_syntax.specs.Lang.{◌▸◌, ◌◂◌}
use Rattle.js_lex.specs.declared.token.Mark.{Mark}
use Rattle.js_lex.specs.declared.token.Mark.TheVariants.{StrictEqual, StrictUnequal, AtMost, AtLeast, And}
use Rattle.js_lex.specs.declared.token.Mark.TheVariants.{Or, OpenBrace, CloseBrace, OpenParen, CloseParen}
use Rattle.js_lex.specs.declared.token.Mark.TheVariants.{OpenBracket, CloseBracket, Point, Semicolon, Comma}
use Rattle.js_lex.specs.declared.token.Mark.TheVariants.{Less, Greater, Plus, Minus, Not, Question, Colon}
use Rattle.js_lex.specs.declared.token.Mark.TheVariants.{Assign}
use Rattle.parse_syntax.specs.declared.token.GrammarToken.{GrammarToken}
use Rattle.parse_syntax.specs.declared.token.Word.{Word}
use Rattle.parse_syntax.specs.declared.token.Word.TheVariants.{Let, Const, Print, If, Else, For, String}
use Rattle.parse_syntax.specs.declared.token.Word.TheVariants.{Symbol, Json, Object, EncodeUri}
use Rattle.parse_syntax.specs.declared.token.Word.TheVariants.{EncodeUriComponent, DecodeUri}
use Rattle.parse_syntax.specs.declared.token.Word.TheVariants.{DecodeUriComponent}
use Rattle.eval_tree.specs.declared.tree.Op.{Op}
use Rattle.eval_tree.specs.declared.tree.Op.TheVariants as op
use Rattle.eval_tree.specs.declared.tree.Method.{Method}
use Rattle.eval_tree.specs.declared.tree.Builtin.{Builtin}
use Rattle.eval_tree.specs.declared.tree.Builtin.TheVariants as builtin
use Rattle.parse_syntax.specs.Terminals.{Identifier, is_mark, mark, at_mark, is_word, word, at_word, among}
use Rattle.parse_syntax.specs.Terminals.{directive, name, the_name, member_word, property_word, method, key}
use Rattle.parse_syntax.specs.Terminals.{from_word, symbol_function, stringify_word, keys_word, assign_op}
use Rattle.parse_syntax.specs.Terminals.{increment, nought, bound_number, simple}
use Rattle.parse_syntax.specs.Tables.{TokenTables}
use Rattle.eval_tree.specs.Tree as tree
use Rattle.eval_tree.specs.Tree.{ExprTree, LinkTree, StepTree, links, steps, exprs, StmtTree, BlockTree}
use Rattle.eval_tree.specs.Tree.{block_of, ArmTree, arms, stmts}

-- the trees of expressions

-- two values as a pair
abbrev pub pair_of : {A B : Type 0} → A → B → A × B
pair_of x y = (x, y)

-- a method and its letters, with arguments or without, where it is the read of a property of that name
abbrev pub method_step : (ℕ × Method) × List ℕ → Option (List ExprTree) → StepTree
method_step m None = tree.of_property m.0.0 m.1
method_step m (Some ts) = tree.of_call m.0.0 m.0.1 (exprs ts)

-- a built-in function, at an offset, with its arguments
abbrev pub builtin_of : ℕ → Builtin × List ExprTree → ExprTree
builtin_of at c = tree.builtin at c.0 (exprs c.1)

-- without a step it is what it is of
abbrev pub post_of : ExprTree → List StepTree → ExprTree
post_of t [] = t
post_of t (s ∷ ss) = tree.post t (steps (s ∷ ss))

-- without an operator it is the operand
abbrev pub chain_of : ExprTree → List LinkTree → ExprTree
chain_of t [] = t
chain_of t (l ∷ ls) = tree.chain t (links (l ∷ ls))

-- without branches it is the test
abbrev pub cond_of : ExprTree → Option (ExprTree × ExprTree) → ExprTree
cond_of t None = t
cond_of t (Some b) = tree.conditional t b.0 b.1

-- the trees of statements

-- the name that a statement declares, if it is a let or const ("BoundNames" of "LexicalDeclaration")
abbrev pub own_name : StmtTree → List (List ℕ)
own_name (tree.let_line at name init) = name ∷ []
own_name (tree.const_line at name init) = name ∷ []
own_name _ = []

-- the names that are declared directly among them
abbrev pub own_names : List StmtTree → List (List ℕ)
own_names ss = flat_map own_name ss

module _ (tables : TokenTables) where
  -- the letters of a name
  abbrev pub letters : Identifier → List ℕ
  letters x = get_or tables.names x.number []

  -- an assignment to this name: the offset of +=, which appends, or none for =, and the value
  abbrev pub assign_of : Identifier → Option ℕ × ExprTree → StmtTree
  assign_of x p = option_map_or (λ at. tree.append at x.at (letters x) p.1) p.0
      (tree.assign x.at (letters x) p.1)

-- expressions, over what an expression E and an operand U are where one more is open

-- ( E )
abbrev pub parens : Lang GrammarToken ExprTree → Lang GrammarToken ExprTree
parens E = One (mark OpenParen) ▸ E ◂ One (mark CloseParen)

-- E { , E }, of expressions or of members
abbrev pub items : {A : Type 0} → Lang GrammarToken A → Lang GrammarToken (List A)
items E = Then (λ x xs. x ∷ xs) E (Many (One (mark Comma) ▸ E))

-- ( [ E { , E } ] )
abbrev pub args : Lang GrammarToken ExprTree → Lang GrammarToken (List ExprTree)
args E = One (mark OpenParen) ▸ (Mapped (λ _. []) (One (mark CloseParen)) ¦ items E ◂ One (mark CloseParen))

-- String Args | String . fromCharCode Args | String . fromCodePoint Args
abbrev pub string_primary : Lang GrammarToken ExprTree → Lang GrammarToken ExprTree
string_primary E = Then builtin_of (One (at_word String))
    (One (mark Point) ▸ Then pair_of (One from_word) (args E) ¦ Mapped (λ ts. (builtin.String, ts)) (args E))

-- an identifier, a point and a function of it, which is called with arguments A: Symbol . for Args
-- | Symbol . keyFor Args | Object . keys Args | JSON . stringify ( E )
abbrev pub static_call : Word → (GrammarToken → Option Builtin) → Lang GrammarToken (List ExprTree)
    → Lang GrammarToken ExprTree
static_call w f A = Then builtin_of (One (at_word w)) (One (mark Point) ▸ Then pair_of (One f) A)

-- encodeURI Args | encodeURIComponent Args | decodeURI Args | decodeURIComponent Args
abbrev pub uri_primary : Lang GrammarToken ExprTree → Lang GrammarToken ExprTree
uri_primary E = Then (λ f ts. tree.builtin f.0 f.1 (exprs ts)) (One (among is_word
    ((EncodeUri, builtin.EncodeUri) ∷ (EncodeUriComponent, builtin.EncodeUriComponent)
    ∷ (DecodeUri, builtin.DecodeUri) ∷ (DecodeUriComponent, builtin.DecodeUriComponent) ∷ []))) (args E)

-- Key : E
abbrev pub entry : TokenTables → Lang GrammarToken ExprTree → Lang GrammarToken (List ℕ × ExprTree)
entry tables E = Then pair_of (One (key tables)) (One (mark Colon) ▸ E)

-- { [ Key : E { , Key : E } ] }
abbrev pub object_literal : TokenTables → Lang GrammarToken ExprTree → Lang GrammarToken ExprTree
object_literal tables E = Then (λ at ms. tree.object at (tree.entries ms)) (One (at_mark OpenBrace))
    (Mapped (λ _. []) (One (mark CloseBrace)) ¦ items (entry tables E) ◂ One (mark CloseBrace))

-- Simple | ( E ) | a call of a built-in function | an object literal ("PrimaryExpression", "CallExpression")
abbrev pub primary : TokenTables → Bool → Lang GrammarToken ExprTree → Lang GrammarToken ExprTree
primary tables room E = One (simple tables) ¦ if_room room (parens E) ¦ if_room room (string_primary E)
    ¦ if_room room (static_call Symbol symbol_function (args E))
    ¦ if_room room (static_call Json stringify_word (Mapped (λ e. e ∷ []) (parens E)))
    ¦ if_room room (uri_primary E) ¦ if_room room (static_call Object keys_word (args E))
    ¦ if_room room (object_literal tables E)

-- . Member | . Property | . Method [ Args ], where a method without arguments is a property
abbrev pub member : TokenTables → Bool → Lang GrammarToken ExprTree → Lang GrammarToken StepTree
member tables room E = One (mark Point) ▸ (One member_word ¦ One (property_word tables)
    ¦ Then method_step (One (method tables)) (if_room room (Mapped Some (args E)) ¦ Nothing None))

-- Member | [ E ], a step behind an expression
abbrev pub step : TokenTables → Bool → Lang GrammarToken ExprTree → Lang GrammarToken StepTree
step tables room E = member tables room E
    ¦ if_room room (Then tree.of_index (One (at_mark OpenBracket)) (E ◂ One (mark CloseBracket)))

-- Primary { Step }
abbrev pub post : TokenTables → Bool → Lang GrammarToken ExprTree → Lang GrammarToken ExprTree
post tables room E = Then post_of (primary tables room E) (Many (step tables room E))

-- L { o L }, where o is one of these marks, each with its operator
abbrev pub chain : List (Mark × Op) → Lang GrammarToken ExprTree → Lang GrammarToken ExprTree
chain os L = Then chain_of L
    (Many (Then (λ o e. record { at = o.0; op = o.1; right = e }) (One (among is_mark os)) L))

module _ (tables : TokenTables) (room : Bool) (E U : Lang GrammarToken ExprTree) where
  -- ( - | ! ) U | Post
  abbrev pub unary : Lang GrammarToken ExprTree
  unary = if_room room (Then (λ s e. tree.unary s.0 s.1 e)
      (One (among is_mark ((Minus, true) ∷ (Not, false) ∷ []))) U) ¦ post tables room E

  -- Unary { ( + | - ) Unary } ("AdditiveExpression")
  abbrev pub additive : Lang GrammarToken ExprTree
  additive = chain ((Plus, op.Plus) ∷ (Minus, op.Minus) ∷ []) unary

  -- Sum { ( < | > | <= | >= ) Sum } ("RelationalExpression")
  abbrev pub comparison : Lang GrammarToken ExprTree
  comparison = chain ((Less, op.Less) ∷ (Greater, op.Greater) ∷ (AtMost, op.LessEq) ∷ (AtLeast, op.GreaterEq)
      ∷ []) additive

  -- Comparison { ( === | !== ) Comparison } ("EqualityExpression")
  abbrev pub equality : Lang GrammarToken ExprTree
  equality = chain ((StrictEqual, op.Same) ∷ (StrictUnequal, op.NotSame) ∷ []) comparison

  -- Equality { && Equality } ("LogicalANDExpression")
  abbrev pub conjunction : Lang GrammarToken ExprTree
  conjunction = chain ((And, op.And) ∷ []) equality

  -- Conjunction { || Conjunction } ("LogicalORExpression")
  abbrev pub disjunction : Lang GrammarToken ExprTree
  disjunction = chain ((Or, op.Or) ∷ []) conjunction

  -- Or [ ? E : E ]
  abbrev pub conditional : Lang GrammarToken ExprTree
  conditional = Then cond_of disjunction (if_room room
      (One (mark Question) ▸ Then (λ y n. Some (y, n)) E (One (mark Colon) ▸ E)) ¦ Nothing None)

abbrev mutual
  -- an expression in which at most so many are open ("ConditionalExpression")
  pub Expression : TokenTables → ℕ → Lang GrammarToken ExprTree
  Expression tables zero = conditional tables false Never Never
  Expression tables (suc n) = conditional tables true (Expression tables n) (Unary tables n)

  -- an operand in which at most so many are open ("UnaryExpression")
  pub Unary : TokenTables → ℕ → Lang GrammarToken ExprTree
  Unary tables zero = unary tables false Never Never
  Unary tables (suc n) = unary tables true (Expression tables n) (Unary tables n)

-- statements, over an expression E at this level, and what an expression I and a statement S are where one
-- more is open

-- { { Statement } }, with the names that its statements declare directly ("LexicallyDeclaredNames")
abbrev pub block_part : Lang GrammarToken StmtTree → Lang GrammarToken BlockTree
block_part S = One (mark OpenBrace)
    ▸ Mapped (λ ss. block_of (own_names ss) (stmts ss)) (Many S ◂ One (mark CloseBrace))

-- let Name [ = E ] ; ("LexicalDeclaration")
abbrev pub let_line : TokenTables → Lang GrammarToken ExprTree → Lang GrammarToken StmtTree
let_line tables E = One (word Let) ▸ Then (λ x init. tree.let_line x.at (letters tables x) init) (One name)
    (Mapped Some (One (mark Assign) ▸ E) ¦ Nothing None) ◂ One (mark Semicolon)

-- const Name = E ; ("LexicalDeclaration")
abbrev pub const_line : TokenTables → Lang GrammarToken ExprTree → Lang GrammarToken StmtTree
const_line tables E = One (word Const) ▸ Then (λ x e. tree.const_line x.at (letters tables x) e) (One name)
    (One (mark Assign) ▸ E ◂ One (mark Semicolon))

-- Name ( = | += ) E ; ("AssignmentExpression" as an "ExpressionStatement")
abbrev pub assign_line : TokenTables → Lang GrammarToken ExprTree → Lang GrammarToken StmtTree
assign_line tables E = Then (assign_of tables) (One name)
    (Then pair_of (One assign_op) (E ◂ One (mark Semicolon)))

-- print Args ; which prints a line
abbrev pub print_statement : Lang GrammarToken ExprTree → Lang GrammarToken StmtTree
print_statement I = One (word Print) ▸ Mapped (λ ts. tree.print (exprs ts)) (args I ◂ One (mark Semicolon))

-- if ( I ) B
abbrev pub if_arm : Lang GrammarToken ExprTree → Lang GrammarToken StmtTree → Lang GrammarToken ArmTree
if_arm I S = One (word If) ▸ Then (λ e b. record { test = e; body = b }) (parens I) (block_part S)

-- if ( I ) B { else if ( I ) B } [ else B ]
abbrev pub if_statement : Lang GrammarToken ExprTree → Lang GrammarToken StmtTree → Lang GrammarToken StmtTree
if_statement I S = Then (λ a others. tree.if_line (arms (a ∷ others.0)) others.1) (if_arm I S)
    (Then pair_of (Many (One (word Else) ▸ if_arm I S))
    (One (word Else) ▸ block_part S ¦ Nothing (block_of [] tree.no_stmts)))

-- = 0 ; x < Bound ; x ++ ), where x is the name before it
abbrev pub loop_head : Identifier → Lang GrammarToken ℕ
loop_head x = One (mark Assign) ▸ One nought ▸ One (mark Semicolon) ▸ One (the_name x.number)
    ▸ One (mark Less) ▸ One bound_number
    ◂ One (mark Semicolon) ▸ One (the_name x.number) ▸ One increment ▸ One (mark CloseParen)

-- for ( let x = 0 ; x < Bound ; x ++ ) B ("ForStatement")
abbrev pub for_statement : TokenTables → Lang GrammarToken StmtTree → Lang GrammarToken StmtTree
for_statement tables S = Then (λ h b. tree.for_line (letters tables h.0) h.1 b) (One (word For)
    ▸ One (mark OpenParen) ▸ One (word Let) ▸ Bind pair_of (One name) loop_head) (block_part S)

-- with prints, or without
abbrev pub statement : TokenTables → Bool → Bool → Lang GrammarToken ExprTree → Lang GrammarToken ExprTree
    → Lang GrammarToken StmtTree → Lang GrammarToken StmtTree
statement tables prints room E I S = if_room room (Mapped tree.block (block_part S))
    ¦ let_line tables E ¦ const_line tables E ¦ assign_line tables E
    ¦ if_room prints (if_room room (print_statement I))
    ¦ if_room room (if_statement I S) ¦ if_room room (for_statement tables S)

-- with room for so many that are open
abbrev pub Statement : TokenTables → Bool → ℕ → Lang GrammarToken StmtTree
Statement tables prints zero = statement tables prints false (Expression tables 0) Never Never
Statement tables prints (suc n) =
    statement tables prints true (Expression tables (suc n)) (Expression tables n) (Statement tables prints n)

-- [ Directive ; ] { Statement }
abbrev pub Statements : TokenTables → Bool → ℕ → Lang GrammarToken (List StmtTree)
Statements tables prints n =
    (One directive ▸ One (mark Semicolon) ¦ Nothing tt) ▸ Many (Statement tables prints n)

-- so many may be open
unfoldable pub most : ℕ
most = 200
