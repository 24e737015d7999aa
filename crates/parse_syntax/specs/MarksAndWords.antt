-- Helpers: no public contract reaches these definitions.
-- Names for the marks and identifiers of the grammar, as the parser's functions look for them.
use Rattle.std.specs.Prelude.{ℕ, Bool, true, false, [], ◌∷◌, Option}
use Rattle.js_lex.specs.declared.token.Mark.TheVariants.{StrictEqual, StrictUnequal, AtMost, AtLeast, And}
use Rattle.js_lex.specs.declared.token.Mark.TheVariants.{Or, OpenBrace, CloseBrace, OpenParen, CloseParen}
use Rattle.js_lex.specs.declared.token.Mark.TheVariants.{OpenBracket, CloseBracket, Point, Semicolon, Comma}
use Rattle.js_lex.specs.declared.token.Mark.TheVariants.{Less, Greater, Plus, Minus, Not, Question, Colon}
use Rattle.js_lex.specs.declared.token.Mark.TheVariants.{Assign}
use Rattle.parse_syntax.specs.declared.token.GrammarToken.{GrammarToken}
use Rattle.parse_syntax.specs.declared.token.Word.TheVariants.{Let, Const, Print, If, Else, For, String}
use Rattle.parse_syntax.specs.declared.token.Word.TheVariants.{Symbol, Json, Object, EncodeUri}
use Rattle.parse_syntax.specs.declared.token.Word.TheVariants.{EncodeUriComponent, DecodeUri}
use Rattle.parse_syntax.specs.declared.token.Word.TheVariants.{DecodeUriComponent}
use Rattle.eval_tree.specs.declared.tree.Op.{Op}
use Rattle.eval_tree.specs.declared.tree.Op.TheVariants as op
use Rattle.eval_tree.specs.declared.tree.Builtin.{Builtin}
use Rattle.eval_tree.specs.declared.tree.Builtin.TheVariants as builtin
use Rattle.parse_syntax.specs.Terminals.{is_mark, mark, at_mark, is_word, word, at_word, among}

abbrev pub let_word : GrammarToken → Option (Unit {0})
let_word = word Let

abbrev pub const_word : GrammarToken → Option (Unit {0})
const_word = word Const

abbrev pub print_word : GrammarToken → Option (Unit {0})
print_word = word Print

abbrev pub if_word : GrammarToken → Option (Unit {0})
if_word = word If

abbrev pub else_word : GrammarToken → Option (Unit {0})
else_word = word Else

abbrev pub for_word : GrammarToken → Option (Unit {0})
for_word = word For

abbrev pub string_word : GrammarToken → Option ℕ
string_word = at_word String

abbrev pub symbol_word : GrammarToken → Option ℕ
symbol_word = at_word Symbol

abbrev pub json_word : GrammarToken → Option ℕ
json_word = at_word Json

abbrev pub object_word : GrammarToken → Option ℕ
object_word = at_word Object

abbrev pub opening : GrammarToken → Option (Unit {0})
opening = mark OpenParen

abbrev pub closing : GrammarToken → Option (Unit {0})
closing = mark CloseParen

abbrev pub open_bracket : GrammarToken → Option ℕ
open_bracket = at_mark OpenBracket

abbrev pub close_bracket : GrammarToken → Option (Unit {0})
close_bracket = mark CloseBracket

abbrev pub open_brace : GrammarToken → Option (Unit {0})
open_brace = mark OpenBrace

abbrev pub open_literal : GrammarToken → Option ℕ
open_literal = at_mark OpenBrace

abbrev pub close_brace : GrammarToken → Option (Unit {0})
close_brace = mark CloseBrace

abbrev pub comma : GrammarToken → Option (Unit {0})
comma = mark Comma

abbrev pub point : GrammarToken → Option (Unit {0})
point = mark Point

abbrev pub semicolon : GrammarToken → Option (Unit {0})
semicolon = mark Semicolon

abbrev pub question : GrammarToken → Option (Unit {0})
question = mark Question

abbrev pub colon : GrammarToken → Option (Unit {0})
colon = mark Colon

abbrev pub less : GrammarToken → Option (Unit {0})
less = mark Less

abbrev pub assign_mark : GrammarToken → Option (Unit {0})
assign_mark = mark Assign

abbrev pub sign : GrammarToken → Option (ℕ × Bool)
sign = among is_mark ((Minus, true) ∷ (Not, false) ∷ [])

abbrev pub or_op : GrammarToken → Option (ℕ × Op)
or_op = among is_mark ((Or, op.Or) ∷ [])

abbrev pub and_op : GrammarToken → Option (ℕ × Op)
and_op = among is_mark ((And, op.And) ∷ [])

abbrev pub equal_op : GrammarToken → Option (ℕ × Op)
equal_op = among is_mark ((StrictEqual, op.Same) ∷ (StrictUnequal, op.NotSame) ∷ [])

abbrev pub compare_op : GrammarToken → Option (ℕ × Op)
compare_op = among is_mark
    ((Less, op.Less) ∷ (Greater, op.Greater) ∷ (AtMost, op.LessEq) ∷ (AtLeast, op.GreaterEq) ∷ [])

abbrev pub sum_op : GrammarToken → Option (ℕ × Op)
sum_op = among is_mark ((Plus, op.Plus) ∷ (Minus, op.Minus) ∷ [])

abbrev pub uri_function : GrammarToken → Option (ℕ × Builtin)
uri_function = among is_word
    ((EncodeUri, builtin.EncodeUri) ∷ (EncodeUriComponent, builtin.EncodeUriComponent)
    ∷ (DecodeUri, builtin.DecodeUri) ∷ (DecodeUriComponent, builtin.DecodeUriComponent) ∷ [])
