-- Helpers: no public contract reaches these definitions.
-- The readers with room for so many that are open, as the parser's functions give them.
use Rattle.std.specs.Prelude.{ℕ, zero, suc, Bool, true, false, List, Option, None}
use Rattle.parse_syntax.specs.Reader.{TokenReader, ◌>>=◌, Got, wrong, and_then, map_by, one_of, choose}
use Rattle.parse_syntax.specs.Reader.{all_of, opens, heads, heads_two, succeed, keep_second}
use Rattle.parse_syntax.specs.declared.token.GrammarToken.{GrammarToken}
use Rattle.parse_syntax.specs.Tables.{TokenTables}
use Rattle.eval_tree.specs.declared.tree.Builtin.{Builtin}
use Rattle.eval_tree.specs.declared.tree.Builtin.TheVariants as builtin
use Rattle.eval_tree.specs.Tree.{ExprTree, StepTree, StmtTree, BlockTree, ArmTree}
use Rattle.parse_syntax.specs.Grammar.{cond_of}
use Rattle.parse_syntax.specs.Reading.{single_of, Which, Whole, Operand}
use Rattle.parse_syntax.specs.Reading.{read_within, read_parens, read_args, read_string, read_symbol}
use Rattle.parse_syntax.specs.Reading.{read_json, read_uri, read_object_call, read_entry, read_members}
use Rattle.parse_syntax.specs.Reading.{read_literal, read_primary, read_word, read_branches, read_step}
use Rattle.parse_syntax.specs.Reading.{read_post, read_unary, read_sum, read_comparison, read_equality}
use Rattle.parse_syntax.specs.Reading.{read_conjunction, read_disjunction, read_conditional, goes_on}
use Rattle.parse_syntax.specs.Reading.{read_block, read_init, read_let, read_const, read_assign, read_print}
use Rattle.parse_syntax.specs.Reading.{read_arm, read_rest, read_if, read_for, read_statement, read_at}
use Rattle.parse_statements.specs.declared.look.Level.{Level}
use Rattle.parse_statements.specs.declared.look.Level.TheVariants as level
use Rattle.parse_syntax.specs.MarksAndWords.{else_word, if_word, string_word, symbol_word, json_word}
use Rattle.parse_syntax.specs.MarksAndWords.{uri_function, question}

abbrev pub has_room : ℕ → Bool
has_room zero = false
has_room (suc n) = true

module _ (tables : TokenTables) where
  -- an expression or an operand where one more is open
  abbrev pub inner : ℕ → Which → TokenReader GrammarToken ExprTree
  inner zero w = wrong
  inner (suc n) w = read_within tables n w

  unfoldable pub parens_at : ℕ → TokenReader GrammarToken ExprTree
  parens_at n = read_parens (inner n Whole)

  unfoldable pub args_at : ℕ → TokenReader GrammarToken (List ExprTree)
  args_at n = read_args (inner n Whole)

  -- the arguments of a built-in function: JSON.stringify has one
  unfoldable pub given_at : ℕ → Builtin → TokenReader GrammarToken (List ExprTree)
  given_at n builtin.Stringify = map_by single_of (read_parens (inner n Whole))
  given_at n _ = read_args (inner n Whole)

  unfoldable pub builtin_at : ℕ → TokenReader GrammarToken ExprTree
  builtin_at n = choose (heads string_word) (read_string (inner n Whole))
      (choose (heads symbol_word) (read_symbol (inner n Whole))
      (choose (heads json_word) (read_json (inner n Whole))
      (choose (heads uri_function) (read_uri (inner n Whole)) (read_object_call (inner n Whole)))))

  -- Key : E, what follows the { of an object literal, and the literal
  unfoldable pub entry_at : ℕ → TokenReader GrammarToken (List ℕ × ExprTree)
  entry_at n = read_entry tables (inner n Whole)

  unfoldable pub members_at : ℕ → TokenReader GrammarToken (List (List ℕ × ExprTree))
  members_at n = read_members tables (inner n Whole)

  unfoldable pub literal_at : ℕ → TokenReader GrammarToken ExprTree
  literal_at n = read_literal tables (inner n Whole)

  unfoldable pub primary_at : ℕ → TokenReader GrammarToken ExprTree
  primary_at n = read_primary tables (has_room n) (inner n Whole)

  -- what follows a point
  unfoldable pub member_at : ℕ → TokenReader GrammarToken StepTree
  member_at n = read_word tables (has_room n) (inner n Whole)

  unfoldable pub step_at : ℕ → TokenReader GrammarToken StepTree
  step_at n = read_step tables (has_room n) (inner n Whole)

  unfoldable pub post_at : ℕ → TokenReader GrammarToken ExprTree
  post_at n = read_post tables (has_room n) (inner n Whole)

  unfoldable pub unary_at : ℕ → TokenReader GrammarToken ExprTree
  unary_at n = read_unary tables (has_room n) (inner n Whole) (inner n Operand)

  -- what the chain of a level is made of, and the chain
  unfoldable pub operand_at : ℕ → Level → TokenReader GrammarToken ExprTree
  operand_at n level.Sum = read_unary tables (has_room n) (inner n Whole) (inner n Operand)
  operand_at n level.Compare = read_sum tables (has_room n) (inner n Whole) (inner n Operand)
  operand_at n level.Equal = read_comparison tables (has_room n) (inner n Whole) (inner n Operand)
  operand_at n level.And = read_equality tables (has_room n) (inner n Whole) (inner n Operand)
  operand_at n level.Or = read_conjunction tables (has_room n) (inner n Whole) (inner n Operand)

  unfoldable pub chain_at : ℕ → Level → TokenReader GrammarToken ExprTree
  chain_at n level.Sum = read_sum tables (has_room n) (inner n Whole) (inner n Operand)
  chain_at n level.Compare = read_comparison tables (has_room n) (inner n Whole) (inner n Operand)
  chain_at n level.Equal = read_equality tables (has_room n) (inner n Whole) (inner n Operand)
  chain_at n level.And = read_conjunction tables (has_room n) (inner n Whole) (inner n Operand)
  chain_at n level.Or = read_disjunction tables (has_room n) (inner n Whole) (inner n Operand)

  -- [ ? E : E ], behind a test
  unfoldable pub branches_at : ℕ → ExprTree → TokenReader GrammarToken ExprTree
  branches_at n t s =
      choose (heads question) (opens (has_room n) (heads question) (read_branches (inner n Whole)))
      (succeed None) s >>= λ b r. Got (cond_of t b) r

  unfoldable pub expression_at : ℕ → TokenReader GrammarToken ExprTree
  expression_at n = read_conditional tables (has_room n) (inner n Whole) (inner n Operand)

  -- statements

  unfoldable pub init_at : ℕ → TokenReader GrammarToken (Option ExprTree)
  init_at n = read_init (expression_at n)

  unfoldable pub let_at : ℕ → TokenReader GrammarToken StmtTree
  let_at n = read_let tables (expression_at n)

  unfoldable pub const_at : ℕ → TokenReader GrammarToken StmtTree
  const_at n = read_const tables (expression_at n)

  unfoldable pub assign_at : ℕ → TokenReader GrammarToken StmtTree
  assign_at n = read_assign tables (expression_at n)

  unfoldable pub print_at : ℕ → TokenReader GrammarToken StmtTree
  print_at n = read_print (inner n Whole)

  module _ (prints : Bool) where
    abbrev pub inner_statement : ℕ → TokenReader GrammarToken StmtTree
    inner_statement zero = wrong
    inner_statement (suc n) = read_at tables prints n

    unfoldable pub statement_at : ℕ → TokenReader GrammarToken StmtTree
    statement_at n =
        read_statement tables prints (has_room n) (expression_at n) (inner n Whole) (inner_statement n)

    unfoldable pub statements_at : ℕ → TokenReader GrammarToken (List StmtTree)
    statements_at n = all_of goes_on (statement_at n)

    unfoldable pub block_at : ℕ → TokenReader GrammarToken BlockTree
    block_at n = read_block (inner_statement n)

    unfoldable pub arm_at : ℕ → TokenReader GrammarToken ArmTree
    arm_at n = read_arm (inner n Whole) (inner_statement n)

    -- { else if ( E ) B }
    unfoldable pub others_at : ℕ → TokenReader GrammarToken (List ArmTree)
    others_at n = all_of (heads_two else_word if_word) (and_then keep_second (one_of else_word) (arm_at n))

    -- [ else B ]
    unfoldable pub rest_at : ℕ → TokenReader GrammarToken BlockTree
    rest_at n = read_rest (inner_statement n)

    unfoldable pub if_at : ℕ → TokenReader GrammarToken StmtTree
    if_at n = read_if (inner n Whole) (inner_statement n)

    unfoldable pub for_at : ℕ → TokenReader GrammarToken StmtTree
    for_at n = read_for tables (inner_statement n)
