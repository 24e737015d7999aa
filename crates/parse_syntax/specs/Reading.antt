-- Helpers: no public contract reaches these definitions.
-- Reading scripts from the front, as the parser's functions do.
use Rattle.std.specs.Prelude.{ℕ, zero, suc, Bool, true, false, cond, List, [], ◌∷◌, Option, Some, None}
use Rattle.std.specs.Prelude.{is_some}
use Rattle.js_lex.specs.declared.token.Mark.TheVariants as mark
use Rattle.parse_syntax.specs.Lang.{Lang, One, Then, Bind, Mapped, Nothing, Either, if_room, ◌▸◌, ◌◂◌}
use Rattle.parse_syntax.specs.Reader.{TokenReader, wrong, map_by, and_then, and_bind, one_of, choose}
use Rattle.parse_syntax.specs.Reader.{all_of, succeed, opens, heads, heads_two, allowed, keep_first}
use Rattle.parse_syntax.specs.Reader.{keep_second}
use Rattle.parse_syntax.specs.declared.token.GrammarToken.{GrammarToken}
use Rattle.parse_syntax.specs.declared.token.GrammarKind.TheVariants as kind
use Rattle.eval_tree.specs.declared.tree.Op.{Op}
use Rattle.eval_tree.specs.declared.tree.Builtin.{Builtin}
use Rattle.eval_tree.specs.declared.tree.Builtin.TheVariants as builtin
use Rattle.eval_tree.specs.Tree as tree
use Rattle.eval_tree.specs.Tree.{ExprTree, LinkTree, StepTree, StmtTree, BlockTree, block_of, ArmTree, arms}
use Rattle.eval_tree.specs.Tree.{exprs, stmts, block}
use Rattle.parse_syntax.specs.Tables.{TokenTables}
use Rattle.parse_syntax.specs.Terminals.{Identifier, directive, name, the_name, member_word, property_word}
use Rattle.parse_syntax.specs.Terminals.{method, key, from_word, symbol_function, stringify_word, keys_word}
use Rattle.parse_syntax.specs.Terminals.{assign_op, increment, nought, bound_number, simple}
use Rattle.parse_syntax.specs.Grammar.{pair_of, method_step, builtin_of, post_of, chain_of, cond_of}
use Rattle.parse_syntax.specs.Grammar.{own_names, letters, assign_of, args, loop_head, Expression, Unary}
use Rattle.parse_syntax.specs.MarksAndWords.{let_word, const_word, print_word, if_word, else_word, for_word}
use Rattle.parse_syntax.specs.MarksAndWords.{string_word, symbol_word, json_word, object_word, uri_function}
use Rattle.parse_syntax.specs.MarksAndWords.{opening, closing, open_bracket, close_bracket, open_brace}
use Rattle.parse_syntax.specs.MarksAndWords.{open_literal, close_brace, comma, point, semicolon, question}
use Rattle.parse_syntax.specs.MarksAndWords.{colon, less, assign_mark, sign, or_op, and_op, equal_op}
use Rattle.parse_syntax.specs.MarksAndWords.{compare_op, sum_op}

-- names for what the grammar makes of values

-- a first value and those behind it, as one list
abbrev pub list_of : {A : Type 0} → A → List A → List A
list_of x xs = x ∷ xs

-- no values, whatever the tokens spell
abbrev pub none_of : {A B : Type 0} → A → List B
none_of x = []

-- an operator, with its offset, and the operand on its right
abbrev pub link_of : ℕ × Op → ExprTree → LinkTree
link_of o t = record { at = o.0; op = o.1; right = t }

-- a block of these statements
abbrev pub inside_of : List StmtTree → BlockTree
inside_of ss = block_of (own_names ss) (stmts ss)

-- a condition, and the block that it guards
abbrev pub arm_of : ExprTree → BlockTree → ArmTree
arm_of e b = record { test = e; body = b }

-- an if statement: its first arm, and the other arms with the last block
abbrev pub if_of : ArmTree → List ArmTree × BlockTree → StmtTree
if_of a p = tree.if_line (arms (a ∷ p.0)) p.1

-- a let of this name, with its initializer if it has one
abbrev pub let_of : TokenTables → Identifier → Option ExprTree → StmtTree
let_of tables x init = tree.let_line x.at (letters tables x) init

-- a const of this name, with its initializer
abbrev pub const_of : TokenTables → Identifier → ExprTree → StmtTree
const_of tables x init = tree.const_line x.at (letters tables x) init

-- a loop over a body, from its name and its bound
abbrev pub for_of : TokenTables → Identifier × ℕ → BlockTree → StmtTree
for_of tables h b = tree.for_line (letters tables h.0) h.1 b

-- a value as a list of one
abbrev pub single_of : {A : Type 0} → A → List A
single_of x = x ∷ []

-- the step [ t ], with the offset of its bracket
abbrev pub index_read : ℕ → ExprTree → StepTree
index_read at t = tree.of_index at t

-- an object literal, at an offset, with its members
abbrev pub object_of : ℕ → List (List ℕ × ExprTree) → ExprTree
object_of at ms = tree.object at (tree.entries ms)

-- a URI handling function with its arguments
abbrev pub uri_of : ℕ × Builtin → List ExprTree → ExprTree
uri_of f ts = tree.builtin f.0 f.1 (exprs ts)

-- the function String itself
abbrev pub plain_string : List ExprTree → Builtin × List ExprTree
plain_string ts = (builtin.String, ts)

-- a sign, with its offset and whether it is a minus, before an operand
abbrev pub unary_of : ℕ × Bool → ExprTree → ExprTree
unary_of s t = tree.unary s.0 s.1 t

-- the two branches of a conditional expression
abbrev pub branches_of : ExprTree → ExprTree → Option (ExprTree × ExprTree)
branches_of y n = Some (y, n)

-- no block
abbrev pub no_inside : BlockTree
no_inside = block_of [] tree.no_stmts

-- a call of print with these arguments
abbrev pub print_of : List ExprTree → StmtTree
print_of ts = tree.print (exprs ts)

-- parts of productions

-- [ Args ]
abbrev pub method_args : Bool → Lang GrammarToken ExprTree → Lang GrammarToken (Option (List ExprTree))
method_args room E = Either (if_room room (Mapped Some (args E))) (Nothing None)

-- [ E ]
abbrev pub index : Lang GrammarToken ExprTree → Lang GrammarToken StepTree
index E = Then tree.of_index (One open_bracket) (E ◂ One close_bracket)

-- ? E : E
abbrev pub branches : Lang GrammarToken ExprTree → Lang GrammarToken (Option (ExprTree × ExprTree))
branches E = One question ▸ Then branches_of E (One colon ▸ E)

-- for ( let x = 0 ; x < Bound ; x ++ )
abbrev pub for_header : Lang GrammarToken (Identifier × ℕ)
for_header = One for_word ▸ One opening ▸ One let_word ▸ Bind pair_of (One name) loop_head

-- expressions

abbrev pub read_parens : TokenReader GrammarToken ExprTree → TokenReader GrammarToken ExprTree
read_parens e = and_then keep_second (one_of opening) (and_then keep_first e (one_of closing))

abbrev pub read_items : TokenReader GrammarToken ExprTree → TokenReader GrammarToken (List ExprTree)
read_items e = and_then list_of e (all_of (heads comma) (and_then keep_second (one_of comma) e))

abbrev pub read_args : TokenReader GrammarToken ExprTree → TokenReader GrammarToken (List ExprTree)
read_args e = and_then keep_second (one_of opening)
    (choose (heads closing) (map_by none_of (one_of closing))
    (and_then keep_first (read_items e) (one_of closing)))

abbrev pub read_string : TokenReader GrammarToken ExprTree → TokenReader GrammarToken ExprTree
read_string e = and_then builtin_of (one_of string_word)
    (choose (heads point)
    (and_then keep_second (one_of point) (and_then pair_of (one_of from_word) (read_args e)))
    (map_by plain_string (read_args e)))

abbrev pub read_symbol : TokenReader GrammarToken ExprTree → TokenReader GrammarToken ExprTree
read_symbol e = and_then builtin_of (one_of symbol_word)
    (and_then keep_second (one_of point) (and_then pair_of (one_of symbol_function) (read_args e)))

abbrev pub read_json : TokenReader GrammarToken ExprTree → TokenReader GrammarToken ExprTree
read_json e = and_then builtin_of (one_of json_word) (and_then keep_second (one_of point)
    (and_then pair_of (one_of stringify_word) (map_by single_of (read_parens e))))

abbrev pub read_uri : TokenReader GrammarToken ExprTree → TokenReader GrammarToken ExprTree
read_uri e = and_then uri_of (one_of uri_function) (read_args e)

abbrev pub read_object_call : TokenReader GrammarToken ExprTree → TokenReader GrammarToken ExprTree
read_object_call e = and_then builtin_of (one_of object_word)
    (and_then keep_second (one_of point) (and_then pair_of (one_of keys_word) (read_args e)))

abbrev pub read_entry : TokenTables → TokenReader GrammarToken ExprTree
    → TokenReader GrammarToken (List ℕ × ExprTree)
read_entry tables e = and_then pair_of (one_of (key tables)) (and_then keep_second (one_of colon) e)

abbrev pub read_entries : TokenTables → TokenReader GrammarToken ExprTree
    → TokenReader GrammarToken (List (List ℕ × ExprTree))
read_entries tables e = and_then list_of (read_entry tables e)
    (all_of (heads comma) (and_then keep_second (one_of comma) (read_entry tables e)))

-- what follows the { of an object literal
abbrev pub read_members : TokenTables → TokenReader GrammarToken ExprTree
    → TokenReader GrammarToken (List (List ℕ × ExprTree))
read_members tables e = choose (heads close_brace) (map_by none_of (one_of close_brace))
    (and_then keep_first (read_entries tables e) (one_of close_brace))

abbrev pub read_literal : TokenTables → TokenReader GrammarToken ExprTree → TokenReader GrammarToken ExprTree
read_literal tables e = and_then object_of (one_of open_literal) (read_members tables e)

abbrev pub read_primary : TokenTables → Bool → TokenReader GrammarToken ExprTree
    → TokenReader GrammarToken ExprTree
read_primary tables room e =
    choose (heads (simple tables)) (one_of (simple tables))
    (choose (heads opening) (opens room (heads opening) (read_parens e))
    (choose (heads string_word) (opens room (heads string_word) (read_string e))
    (choose (heads symbol_word) (opens room (heads symbol_word) (read_symbol e))
    (choose (heads json_word) (opens room (heads json_word) (read_json e))
    (choose (heads uri_function) (opens room (heads uri_function) (read_uri e))
    (choose (heads object_word) (opens room (heads object_word) (read_object_call e))
    (opens room (heads open_literal) (read_literal tables e))))))))

abbrev pub read_method_args : Bool → TokenReader GrammarToken ExprTree
    → TokenReader GrammarToken (Option (List ExprTree))
read_method_args room e =
    choose (heads opening) (opens room (heads opening) (map_by Some (read_args e))) (succeed None)

-- what follows a point
abbrev pub read_word : TokenTables → Bool → TokenReader GrammarToken ExprTree
    → TokenReader GrammarToken StepTree
read_word tables room e =
    choose (heads member_word) (one_of member_word)
    (choose (heads (property_word tables)) (one_of (property_word tables))
    (and_then method_step (one_of (method tables)) (read_method_args room e)))

abbrev pub read_member : TokenTables → Bool → TokenReader GrammarToken ExprTree
    → TokenReader GrammarToken StepTree
read_member tables room e = and_then keep_second (one_of point) (read_word tables room e)

abbrev pub read_index : TokenReader GrammarToken ExprTree → TokenReader GrammarToken StepTree
read_index e = and_then index_read (one_of open_bracket) (and_then keep_first e (one_of close_bracket))

abbrev pub read_step : TokenTables → Bool → TokenReader GrammarToken ExprTree
    → TokenReader GrammarToken StepTree
read_step tables room e =
    choose (heads point) (read_member tables room e) (opens room (heads open_bracket) (read_index e))

-- what begins a step
abbrev pub step_mark : GrammarToken → Option (Unit {0})
step_mark t = elim t.kind [ kind.Mark mark.Point ↦ Some tt | kind.Mark mark.OpenBracket ↦ Some tt | _ ↦ None ]

abbrev pub read_post : TokenTables → Bool → TokenReader GrammarToken ExprTree
    → TokenReader GrammarToken ExprTree
read_post tables room e =
    and_then post_of (read_primary tables room e) (all_of (heads step_mark) (read_step tables room e))

abbrev pub read_unary : TokenTables → Bool → TokenReader GrammarToken ExprTree
    → TokenReader GrammarToken ExprTree
    → TokenReader GrammarToken ExprTree
read_unary tables room e u = choose (heads sign) (opens room (heads sign) (and_then unary_of (one_of sign) u))
    (read_post tables room e)

abbrev pub read_chain : (GrammarToken → Option (ℕ × Op)) → TokenReader GrammarToken ExprTree
    → TokenReader GrammarToken ExprTree
read_chain o r = and_then chain_of r (all_of (heads o) (and_then link_of (one_of o) r))

abbrev pub read_sum : TokenTables → Bool → TokenReader GrammarToken ExprTree
    → TokenReader GrammarToken ExprTree
    → TokenReader GrammarToken ExprTree
read_sum tables room e u = read_chain sum_op (read_unary tables room e u)

abbrev pub read_comparison : TokenTables → Bool → TokenReader GrammarToken ExprTree
    → TokenReader GrammarToken ExprTree
    → TokenReader GrammarToken ExprTree
read_comparison tables room e u = read_chain compare_op (read_sum tables room e u)

abbrev pub read_equality : TokenTables → Bool → TokenReader GrammarToken ExprTree
    → TokenReader GrammarToken ExprTree
    → TokenReader GrammarToken ExprTree
read_equality tables room e u = read_chain equal_op (read_comparison tables room e u)

abbrev pub read_conjunction : TokenTables → Bool → TokenReader GrammarToken ExprTree
    → TokenReader GrammarToken ExprTree
    → TokenReader GrammarToken ExprTree
read_conjunction tables room e u = read_chain and_op (read_equality tables room e u)

abbrev pub read_disjunction : TokenTables → Bool → TokenReader GrammarToken ExprTree
    → TokenReader GrammarToken ExprTree
    → TokenReader GrammarToken ExprTree
read_disjunction tables room e u = read_chain or_op (read_conjunction tables room e u)

abbrev pub read_branches : TokenReader GrammarToken ExprTree
    → TokenReader GrammarToken (Option (ExprTree × ExprTree))
read_branches e =
    and_then keep_second (one_of question) (and_then branches_of e (and_then keep_second (one_of colon) e))

abbrev pub read_conditional : TokenTables → Bool → TokenReader GrammarToken ExprTree
    → TokenReader GrammarToken ExprTree
    → TokenReader GrammarToken ExprTree
read_conditional tables room e u = and_then cond_of (read_disjunction tables room e u)
    (choose (heads question) (opens room (heads question) (read_branches e)) (succeed None))

-- an expression, and the operand of a sign
pub data Which : Type 0 where
  Whole Operand : Which

-- either with room for so many that are open
abbrev pub within_room : TokenTables → ℕ → Which → Lang GrammarToken ExprTree
within_room tables n Whole = Expression tables n
within_room tables n Operand = Unary tables n

abbrev pub read_level : TokenTables → Bool → (Which → TokenReader GrammarToken ExprTree) → Which
    → TokenReader GrammarToken ExprTree
read_level tables room i Whole = read_conditional tables room (i Whole) (i Operand)
read_level tables room i Operand = read_unary tables room (i Whole) (i Operand)

abbrev pub read_within : TokenTables → ℕ → Which → TokenReader GrammarToken ExprTree
read_within tables zero = read_level tables false (λ w. wrong)
read_within tables (suc n) = read_level tables true (read_within tables n)

-- statements

-- statements go on as long as there is a token other than an end of a block
abbrev pub goes_on : List GrammarToken → Bool
goes_on [] = false
goes_on (t ∷ s) = cond (is_some (close_brace t)) false true

abbrev pub read_block : TokenReader GrammarToken StmtTree → TokenReader GrammarToken BlockTree
read_block s = and_then keep_second (one_of open_brace)
    (map_by inside_of (and_then keep_first (all_of goes_on s) (one_of close_brace)))

abbrev pub read_init : TokenReader GrammarToken ExprTree → TokenReader GrammarToken (Option ExprTree)
read_init e =
    choose (heads assign_mark) (map_by Some (and_then keep_second (one_of assign_mark) e)) (succeed None)

abbrev pub read_let : TokenTables → TokenReader GrammarToken ExprTree → TokenReader GrammarToken StmtTree
read_let tables e = and_then keep_second (one_of let_word)
    (and_then keep_first (and_then (let_of tables) (one_of name) (read_init e)) (one_of semicolon))

abbrev pub read_const : TokenTables → TokenReader GrammarToken ExprTree → TokenReader GrammarToken StmtTree
read_const tables e = and_then keep_second (one_of const_word) (and_then (const_of tables) (one_of name)
    (and_then keep_second (one_of assign_mark) (and_then keep_first e (one_of semicolon))))

abbrev pub read_assign : TokenTables → TokenReader GrammarToken ExprTree → TokenReader GrammarToken StmtTree
read_assign tables e = and_then (assign_of tables) (one_of name)
    (and_then pair_of (one_of assign_op) (and_then keep_first e (one_of semicolon)))

abbrev pub read_print : TokenReader GrammarToken ExprTree → TokenReader GrammarToken StmtTree
read_print e = and_then keep_second (one_of print_word)
    (map_by print_of (and_then keep_first (read_args e) (one_of semicolon)))

abbrev pub read_arm : TokenReader GrammarToken ExprTree → TokenReader GrammarToken StmtTree
    → TokenReader GrammarToken ArmTree
read_arm e s = and_then keep_second (one_of if_word) (and_then arm_of (read_parens e) (read_block s))

abbrev pub read_rest : TokenReader GrammarToken StmtTree → TokenReader GrammarToken BlockTree
read_rest s =
    choose (heads else_word) (and_then keep_second (one_of else_word) (read_block s)) (succeed no_inside)

abbrev pub read_if : TokenReader GrammarToken ExprTree → TokenReader GrammarToken StmtTree
    → TokenReader GrammarToken StmtTree
read_if e s = and_then if_of (read_arm e s)
    (and_then pair_of
    (all_of (heads_two else_word if_word) (and_then keep_second (one_of else_word) (read_arm e s)))
    (read_rest s))

abbrev pub read_turns : Identifier → TokenReader GrammarToken ℕ
read_turns x = and_then keep_second (one_of assign_mark)
    (and_then keep_second (one_of nought)
    (and_then keep_second (one_of semicolon)
    (and_then keep_second (one_of (the_name x.number))
    (and_then keep_second (one_of less)
    (and_then keep_first (one_of bound_number)
    (and_then keep_second (one_of semicolon)
    (and_then keep_second (one_of (the_name x.number))
    (and_then keep_second (one_of increment)
    (one_of closing)))))))))

abbrev pub read_header : TokenReader GrammarToken (Identifier × ℕ)
read_header = and_then keep_second (one_of for_word) (and_then keep_second (one_of opening)
    (and_then keep_second (one_of let_word) (and_bind pair_of (one_of name) read_turns)))

abbrev pub read_for : TokenTables → TokenReader GrammarToken StmtTree → TokenReader GrammarToken StmtTree
read_for tables s = and_then (for_of tables) read_header (read_block s)

abbrev pub read_statement : TokenTables → Bool → Bool → TokenReader GrammarToken ExprTree
    → TokenReader GrammarToken ExprTree
    → TokenReader GrammarToken StmtTree → TokenReader GrammarToken StmtTree
read_statement tables prints room e i s =
    choose (heads open_brace) (opens room (heads open_brace) (map_by block (read_block s)))
    (choose (heads let_word) (read_let tables e)
    (choose (heads const_word) (read_const tables e)
    (choose (heads name) (read_assign tables e)
    (choose (heads print_word) (allowed prints (opens room (heads print_word) (read_print i)))
    (choose (heads if_word) (opens room (heads if_word) (read_if i s))
    (opens room (heads for_word) (read_for tables s)))))))

abbrev pub read_at : TokenTables → Bool → ℕ → TokenReader GrammarToken StmtTree
read_at tables prints zero = read_statement tables prints false (read_within tables 0 Whole) wrong wrong
read_at tables prints (suc n) = read_statement tables prints true (read_within tables (suc n) Whole)
    (read_within tables n Whole) (read_at tables prints n)

abbrev pub read_strict : TokenReader GrammarToken (Unit {0})
read_strict = choose (heads directive) (and_then keep_second (one_of directive) (one_of semicolon))
    (succeed tt)

abbrev pub read_statements : TokenTables → Bool → ℕ → TokenReader GrammarToken (List StmtTree)
read_statements tables prints n = and_then keep_second read_strict (all_of goes_on (read_at tables prints n))
