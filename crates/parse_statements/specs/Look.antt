-- Helpers: no public contract reaches these definitions.
-- What the parser looks for at the next token.
use Rattle.std.specs.Prelude.{ℕ, List, [], ◌∷◌, Option, Some, None}
use Rattle.parse_syntax.specs.Reader.{TokenReader, and_then, one_of, choose, heads, succeed, keep_second}
use Rattle.parse_syntax.specs.declared.token.GrammarToken.{GrammarToken}
use Rattle.parse_syntax.specs.declared.token.GrammarKind.TheVariants as kind
use Rattle.js_lex.specs.declared.token.Mark.TheVariants as mark
use Rattle.parse_syntax.specs.declared.token.Word.TheVariants as word
use Rattle.eval_tree.specs.declared.tree.Op.{Op}
use Rattle.eval_tree.specs.declared.tree.Builtin.{Builtin}
use Rattle.eval_tree.specs.declared.tree.Builtin.TheVariants as builtin
use Rattle.parse_syntax.specs.Terminals.{Identifier, from_word, symbol_function, stringify_word, keys_word}
use Rattle.parse_syntax.specs.Terminals.{directive, increment, nought}
use Rattle.parse_syntax.specs.Grammar.{pair_of}
use Rattle.parse_statements.specs.declared.look.Level.{Level}
use Rattle.parse_statements.specs.declared.look.Level.TheVariants as level
use Rattle.parse_statements.specs.declared.look.Opener.{Opener}
use Rattle.parse_statements.specs.declared.look.Opener.TheVariants as opener
use Rattle.parse_statements.specs.declared.look.Fixed.{Fixed}
use Rattle.parse_statements.specs.declared.look.Fixed.TheVariants as fixed
use Rattle.parse_syntax.specs.MarksAndWords.{or_op, and_op, equal_op, compare_op, sum_op, else_word}
use Rattle.parse_syntax.specs.MarksAndWords.{if_word, string_word, symbol_word, json_word, object_word}
use Rattle.parse_syntax.specs.MarksAndWords.{uri_function, point, let_word, const_word, print_word}
use Rattle.parse_syntax.specs.MarksAndWords.{for_word, opening, closing, close_bracket, open_brace}
use Rattle.parse_syntax.specs.MarksAndWords.{close_brace, comma, semicolon, colon, question, less}
use Rattle.parse_syntax.specs.MarksAndWords.{assign_mark}

-- an identifier or mark that is nothing but itself
abbrev pub terminal : Fixed → GrammarToken → Option (Unit {0})
terminal fixed.OpenParen = opening
terminal fixed.CloseParen = closing
terminal fixed.CloseBracket = close_bracket
terminal fixed.OpenBrace = open_brace
terminal fixed.CloseBrace = close_brace
terminal fixed.Comma = comma
terminal fixed.Point = point
terminal fixed.Semicolon = semicolon
terminal fixed.Question = question
terminal fixed.Colon = colon
terminal fixed.Less = less
terminal fixed.Assign = assign_mark
terminal fixed.Increment = increment
terminal fixed.Nought = nought
terminal fixed.Directive = directive
terminal fixed.Let = let_word
terminal fixed.Const = const_word
terminal fixed.Print = print_word
terminal fixed.If = if_word
terminal fixed.Else = else_word
terminal fixed.For = for_word

-- the operators by level
abbrev pub operators : Level → GrammarToken → Option (ℕ × Op)
operators level.Or = or_op
operators level.And = and_op
operators level.Equal = equal_op
operators level.Compare = compare_op
operators level.Sum = sum_op

abbrev pub ident : ℕ → ℕ → Identifier
ident at n = record { at = at; number = n }

-- what a primary of several tokens begins with
abbrev pub opener_of : GrammarToken → Option Opener
opener_of t = elim t.kind [
  | kind.Mark mark.OpenParen ↦ Some opener.Paren
  | kind.Mark mark.OpenBrace ↦ Some opener.Literal
  | kind.Word word.String n ↦ Some opener.Builtin
  | kind.Word word.Symbol n ↦ Some opener.Builtin
  | kind.Word word.Json n ↦ Some opener.Builtin
  | kind.Word word.Object n ↦ Some opener.Builtin
  | kind.Word word.EncodeUri n ↦ Some opener.Builtin
  | kind.Word word.EncodeUriComponent n ↦ Some opener.Builtin
  | kind.Word word.DecodeUri n ↦ Some opener.Builtin
  | kind.Word word.DecodeUriComponent n ↦ Some opener.Builtin
  | _ ↦ None
]

abbrev pub openers : List GrammarToken → Option Opener
openers [] = None
openers (t ∷ s) = opener_of t

-- the function that is called

abbrev pub read_string_called : TokenReader GrammarToken Builtin
read_string_called =
    choose (heads point) (and_then keep_second (one_of point) (one_of from_word)) (succeed builtin.String)

abbrev pub read_symbol_called : TokenReader GrammarToken Builtin
read_symbol_called = and_then keep_second (one_of point) (one_of symbol_function)

abbrev pub read_json_called : TokenReader GrammarToken Builtin
read_json_called = and_then keep_second (one_of point) (one_of stringify_word)

abbrev pub read_object_called : TokenReader GrammarToken Builtin
read_object_called = and_then keep_second (one_of point) (one_of keys_word)

abbrev pub read_called : TokenReader GrammarToken (ℕ × Builtin)
read_called = choose (heads string_word) (and_then pair_of (one_of string_word) read_string_called)
    (choose (heads symbol_word) (and_then pair_of (one_of symbol_word) read_symbol_called)
    (choose (heads json_word) (and_then pair_of (one_of json_word) read_json_called)
    (choose (heads object_word) (and_then pair_of (one_of object_word) read_object_called)
    (one_of uri_function))))
