-- What may follow an expression, by the level of the next token; and what begins a primary.
use Rattle.std.proofs.Common.{◌≡◌, ℕ, ◌≤◌, List, [], ◌∷◌, Bool, true, false, Option, Some, None, refl, nat_lt, arith}
use Rattle.std.proofs.lemmas.Bool.Decides.{nat_tests}
use Rattle.js_lex.specs.declared.token.Mark.TheVariants as mark
use Rattle.parse_syntax.specs.Reader.{heads}
use Rattle.parse_syntax.proofs.Heads.{IsOf}
use Rattle.parse_syntax.specs.declared.token.GrammarToken.{GrammarToken}
use Rattle.parse_syntax.specs.declared.token.GrammarKind.{GrammarKind}
use Rattle.parse_syntax.specs.declared.token.GrammarKind.TheVariants as kind
use Rattle.parse_syntax.specs.declared.token.Word.TheVariants as word
use Rattle.parse_syntax.specs.declared.token.Property.TheVariants as property
use Rattle.eval_tree.specs.declared.tree.Method.{Method}
use Rattle.eval_tree.specs.Tree.{ExprTree, StepTree}
use Rattle.parse_syntax.specs.Tables.{TokenTables}
use Rattle.parse_syntax.specs.Terminals.{member_word, property_word, method, key, simple, constant}
use Rattle.parse_syntax.specs.Reading.{step_mark}
use Rattle.std.specs.Prelude.{is_some}
use Rattle.parse_syntax.specs.MarksAndWords.{string_word, symbol_word, json_word, object_word, uri_function, opening, closing, open_bracket, close_bracket}
use Rattle.parse_syntax.specs.MarksAndWords.{open_literal, close_brace, comma, point, question, colon, sign, or_op, and_op, equal_op, compare_op, sum_op}

-- a token of a kind, and the token with another kind

abbrev pub sample : GrammarKind → GrammarToken
sample k = record { at = 0; after_line = false; kind = k }

abbrev pub with_kind : GrammarToken → GrammarKind → GrammarToken
with_kind t k = record { at = t.at; after_line = t.after_line; kind = k }

-- an operator has the level of its chain, what begins a step the one above, and what begins a method's arguments the next
abbrev kind_level : GrammarKind → ℕ
kind_level (kind.Mark mark.Question) = 1
kind_level (kind.Mark mark.Or) = 2
kind_level (kind.Mark mark.And) = 3
kind_level (kind.Mark mark.StrictEqual) = 4
kind_level (kind.Mark mark.StrictUnequal) = 4
kind_level (kind.Mark mark.Less) = 5
kind_level (kind.Mark mark.Greater) = 5
kind_level (kind.Mark mark.AtMost) = 5
kind_level (kind.Mark mark.AtLeast) = 5
kind_level (kind.Mark mark.Plus) = 6
kind_level (kind.Mark mark.Minus) = 6
kind_level (kind.Mark mark.Point) = 7
kind_level (kind.Mark mark.OpenBracket) = 7
kind_level (kind.Mark mark.OpenParen) = 8
kind_level _ = 0

abbrev pub level_of : GrammarToken → ℕ
level_of t = kind_level t.kind

-- what follows goes on with nothing of this level or a higher one
abbrev pub stops : ℕ → List GrammarToken → Bool
stops k [] = true
stops k (t ∷ s) = nat_lt (level_of t) k

pub stops_more : (k m : ℕ) (s : List GrammarToken) → k ≤ m → stops k s ≡ true → stops m s ≡ true
stops_more k m [] le e = refl
stops_more k m (t ∷ s) le e = less (level_of t) e
  where
    less : (n : ℕ) → nat_lt n k ≡ true → nat_lt n m ≡ true
    less n e = grind (arith, nat_tests)

-- every token with such a value is of this level
pub record HasLevel {A : Type 0} (v : GrammarToken → Option A) (n : ℕ) : Type 0 where
  pub is : (t : GrammarToken) (x : A) → v t ≡ Some x → level_of t ≡ n

pub question_level : HasLevel question 1
question_level = record { is = λ t x e. go t t.kind x e }
  where
    go : (t : GrammarToken) (k : GrammarKind) (x : _) → question (with_kind t k) ≡ Some x → level_of (with_kind t k) ≡ 1
    go t (kind.Mark mark.Question) x e = refl
    go t _ x e = cc

pub or_level : HasLevel or_op 2
or_level = record { is = λ t x e. go t t.kind x e }
  where
    go : (t : GrammarToken) (k : GrammarKind) (x : _) → or_op (with_kind t k) ≡ Some x → level_of (with_kind t k) ≡ 2
    go t (kind.Mark mark.Or) x e = refl
    go t _ x e = cc

pub and_level : HasLevel and_op 3
and_level = record { is = λ t x e. go t t.kind x e }
  where
    go : (t : GrammarToken) (k : GrammarKind) (x : _) → and_op (with_kind t k) ≡ Some x → level_of (with_kind t k) ≡ 3
    go t (kind.Mark mark.And) x e = refl
    go t _ x e = cc

pub equal_level : HasLevel equal_op 4
equal_level = record { is = λ t x e. go t t.kind x e }
  where
    go : (t : GrammarToken) (k : GrammarKind) (x : _) → equal_op (with_kind t k) ≡ Some x → level_of (with_kind t k) ≡ 4
    go t (kind.Mark mark.StrictEqual) x e = refl
    go t (kind.Mark mark.StrictUnequal) x e = refl
    go t _ x e = cc

pub compare_level : HasLevel compare_op 5
compare_level = record { is = λ t x e. go t t.kind x e }
  where
    go : (t : GrammarToken) (k : GrammarKind) (x : _) → compare_op (with_kind t k) ≡ Some x → level_of (with_kind t k) ≡ 5
    go t (kind.Mark mark.Less) x e = refl
    go t (kind.Mark mark.Greater) x e = refl
    go t (kind.Mark mark.AtMost) x e = refl
    go t (kind.Mark mark.AtLeast) x e = refl
    go t _ x e = cc

pub sum_level : HasLevel sum_op 6
sum_level = record { is = λ t x e. go t t.kind x e }
  where
    go : (t : GrammarToken) (k : GrammarKind) (x : _) → sum_op (with_kind t k) ≡ Some x → level_of (with_kind t k) ≡ 6
    go t (kind.Mark mark.Plus) x e = refl
    go t (kind.Mark mark.Minus) x e = refl
    go t _ x e = cc

pub step_level : HasLevel step_mark 7
step_level = record { is = λ t x e. go t t.kind x e }
  where
    go : (t : GrammarToken) (k : GrammarKind) (x : _) → step_mark (with_kind t k) ≡ Some x → level_of (with_kind t k) ≡ 7
    go t (kind.Mark mark.Point) x e = refl
    go t (kind.Mark mark.OpenBracket) x e = refl
    go t _ x e = cc

pub opening_level : HasLevel opening 8
opening_level = record { is = λ t x e. go t t.kind x e }
  where
    go : (t : GrammarToken) (k : GrammarKind) (x : _) → opening (with_kind t k) ≡ Some x → level_of (with_kind t k) ≡ 8
    go t (kind.Mark mark.OpenParen) x e = refl
    go t _ x e = cc

pub colon_level : HasLevel colon 0
colon_level = record { is = λ t x e. go t t.kind x e }
  where
    go : (t : GrammarToken) (k : GrammarKind) (x : _) → colon (with_kind t k) ≡ Some x → level_of (with_kind t k) ≡ 0
    go t (kind.Mark mark.Colon) x e = refl
    go t _ x e = cc

pub closing_level : HasLevel closing 0
closing_level = record { is = λ t x e. go t t.kind x e }
  where
    go : (t : GrammarToken) (k : GrammarKind) (x : _) → closing (with_kind t k) ≡ Some x → level_of (with_kind t k) ≡ 0
    go t (kind.Mark mark.CloseParen) x e = refl
    go t _ x e = cc

pub close_bracket_level : HasLevel close_bracket 0
close_bracket_level = record { is = λ t x e. go t t.kind x e }
  where
    go : (t : GrammarToken) (k : GrammarKind) (x : _) → close_bracket (with_kind t k) ≡ Some x → level_of (with_kind t k) ≡ 0
    go t (kind.Mark mark.CloseBracket) x e = refl
    go t _ x e = cc

pub close_brace_level : HasLevel close_brace 0
close_brace_level = record { is = λ t x e. go t t.kind x e }
  where
    go : (t : GrammarToken) (k : GrammarKind) (x : _) → close_brace (with_kind t k) ≡ Some x → level_of (with_kind t k) ≡ 0
    go t (kind.Mark mark.CloseBrace) x e = refl
    go t _ x e = cc

pub comma_level : HasLevel comma 0
comma_level = record { is = λ t x e. go t t.kind x e }
  where
    go : (t : GrammarToken) (k : GrammarKind) (x : _) → comma (with_kind t k) ≡ Some x → level_of (with_kind t k) ≡ 0
    go t (kind.Mark mark.Comma) x e = refl
    go t _ x e = cc

-- what ends a level has no token of that level or above
pub none_of_level : {A : Type 0} (v : GrammarToken → Option A) (n k : ℕ) → HasLevel v n → k ≤ n → (s : List GrammarToken) → stops k s ≡ true → heads v s ≡ false
none_of_level v n k h le [] e = refl
none_of_level v n k h le (t ∷ s) e = go (v t) refl
  where
    less_no : (m : ℕ) → m ≡ n → nat_lt m k ≡ true → ⊥
    less_no m c e = grind (arith, nat_tests)

    go : (o : Option _) → v t ≡ o → is_some o ≡ false
    go None g = refl
    go (Some x) g = absurd (less_no (level_of t) (h.is t x g) e)

-- which tokens begin a primary

abbrev kind_class : GrammarKind → ℕ
kind_class (kind.Text n k) = 1
kind_class (kind.Number n) = 1
kind_class (kind.Name n p) = 1
kind_class (kind.Word word.Undefined number) = 1
kind_class (kind.Word word.Null number) = 1
kind_class (kind.Word word.True number) = 1
kind_class (kind.Word word.False number) = 1
kind_class (kind.Word word.NaN number) = 1
kind_class (kind.Word word.Infinity number) = 1
kind_class (kind.Mark mark.OpenParen) = 2
kind_class (kind.Word word.String number) = 3
kind_class (kind.Word word.Symbol number) = 4
kind_class (kind.Word word.Json number) = 5
kind_class (kind.Word word.EncodeUri number) = 6
kind_class (kind.Word word.EncodeUriComponent number) = 6
kind_class (kind.Word word.DecodeUri number) = 6
kind_class (kind.Word word.DecodeUriComponent number) = 6
kind_class (kind.Word word.Object number) = 7
kind_class (kind.Mark mark.OpenBrace) = 8
kind_class _ = 0

abbrev pub class : GrammarToken → ℕ
class t = kind_class t.kind

pub simple_of : (tables : TokenTables) → IsOf class (simple tables) 1
simple_of tables = record { is = λ t x e. go t t.kind x e }
  where
    constants : (number : ℕ) (w : _) (x : ExprTree) → constant w ≡ Some x → kind_class (kind.Word w number) ≡ 1
    constants number word.Undefined x e = refl
    constants number word.Null x e = refl
    constants number word.True x e = refl
    constants number word.False x e = refl
    constants number word.NaN x e = refl
    constants number word.Infinity x e = refl
    constants number _ x e = cc

    go : (t : GrammarToken) (k : GrammarKind) (x : ExprTree) → simple tables (with_kind t k) ≡ Some x → class (with_kind t k) ≡ 1
    go t (kind.Text n k) x e = refl
    go t (kind.Number n) x e = refl
    go t (kind.Name n p) x e = refl
    go t (kind.Word w number) x e = constants number w x e
    go t kind.Directive x e = cc
    go t (kind.Mark m) x e = cc

pub opening_of : IsOf class opening 2
opening_of = record { is = λ t x e. go t t.kind x e }
  where
    go : (t : GrammarToken) (k : GrammarKind) (x : _) → opening (with_kind t k) ≡ Some x → class (with_kind t k) ≡ 2
    go t (kind.Mark mark.OpenParen) x e = refl
    go t _ x e = cc

pub string_of : IsOf class string_word 3
string_of = record { is = λ t x e. go t t.kind x e }
  where
    go : (t : GrammarToken) (k : GrammarKind) (x : _) → string_word (with_kind t k) ≡ Some x → class (with_kind t k) ≡ 3
    go t (kind.Word word.String number) x e = refl
    go t _ x e = cc

pub symbol_of : IsOf class symbol_word 4
symbol_of = record { is = λ t x e. go t t.kind x e }
  where
    go : (t : GrammarToken) (k : GrammarKind) (x : _) → symbol_word (with_kind t k) ≡ Some x → class (with_kind t k) ≡ 4
    go t (kind.Word word.Symbol number) x e = refl
    go t _ x e = cc

pub json_of : IsOf class json_word 5
json_of = record { is = λ t x e. go t t.kind x e }
  where
    go : (t : GrammarToken) (k : GrammarKind) (x : _) → json_word (with_kind t k) ≡ Some x → class (with_kind t k) ≡ 5
    go t (kind.Word word.Json number) x e = refl
    go t _ x e = cc

pub uri_function_of : IsOf class uri_function 6
uri_function_of = record { is = λ t x e. go t t.kind x e }
  where
    go : (t : GrammarToken) (k : GrammarKind) (x : _) → uri_function (with_kind t k) ≡ Some x → class (with_kind t k) ≡ 6
    go t (kind.Word word.EncodeUri number) x e = refl
    go t (kind.Word word.EncodeUriComponent number) x e = refl
    go t (kind.Word word.DecodeUri number) x e = refl
    go t (kind.Word word.DecodeUriComponent number) x e = refl
    go t _ x e = cc

pub object_of : IsOf class object_word 7
object_of = record { is = λ t x e. go t t.kind x e }
  where
    go : (t : GrammarToken) (k : GrammarKind) (x : _) → object_word (with_kind t k) ≡ Some x → class (with_kind t k) ≡ 7
    go t (kind.Word word.Object number) x e = refl
    go t _ x e = cc

pub literal_of : IsOf class open_literal 8
literal_of = record { is = λ t x e. go t t.kind x e }
  where
    go : (t : GrammarToken) (k : GrammarKind) (x : _) → open_literal (with_kind t k) ≡ Some x → class (with_kind t k) ≡ 8
    go t (kind.Mark mark.OpenBrace) x e = refl
    go t _ x e = cc

pub sign_of : IsOf class sign 0
sign_of = record { is = λ t x e. go t t.kind x e }
  where
    go : (t : GrammarToken) (k : GrammarKind) (x : _) → sign (with_kind t k) ≡ Some x → class (with_kind t k) ≡ 0
    go t (kind.Mark mark.Minus) x e = refl
    go t (kind.Mark mark.Not) x e = refl
    go t _ x e = cc

-- what may begin a list of arguments isn't its end
pub closing_of : IsOf class closing 0
closing_of = record { is = λ t x e. go t t.kind x e }
  where
    go : (t : GrammarToken) (k : GrammarKind) (x : _) → closing (with_kind t k) ≡ Some x → class (with_kind t k) ≡ 0
    go t (kind.Mark mark.CloseParen) x e = refl
    go t _ x e = cc

-- a sign, or the first token of a primary
abbrev pub begins_unary : GrammarToken → Bool
begins_unary t = elim t.kind [ kind.Mark mark.Minus ↦ true | kind.Mark mark.Not ↦ true | _ ↦ nat_lt 0 (class t) ]

pub sign_begins : (t : GrammarToken) (x : ℕ × Bool) → sign t ≡ Some x → begins_unary t ≡ true
sign_begins t x e = go t t.kind x e
  where
    go : (t : GrammarToken) (k : GrammarKind) (x : ℕ × Bool) → sign (with_kind t k) ≡ Some x → begins_unary (with_kind t k) ≡ true
    go t (kind.Mark mark.Minus) x e = refl
    go t (kind.Mark mark.Not) x e = refl
    go t _ x e = cc

pub primary_begins : (t : GrammarToken) → nat_lt 0 (class t) ≡ true → begins_unary t ≡ true
primary_begins t e = go t t.kind e
  where
    go : (t : GrammarToken) (k : GrammarKind) → nat_lt 0 (class (with_kind t k)) ≡ true → begins_unary (with_kind t k) ≡ true
    go t (kind.Mark mark.Minus) e = refl
    go t (kind.Mark mark.Not) e = refl
    go t _ e = e

pub no_closing : (t : GrammarToken) (s : List GrammarToken) → begins_unary t ≡ true → heads closing (t ∷ s) ≡ false
no_closing t s e = go t t.kind e
  where
    go : (t : GrammarToken) (k : GrammarKind) → begins_unary (with_kind t k) ≡ true → is_some (closing (with_kind t k)) ≡ false
    go t (kind.Mark mark.CloseParen) e = cc
    go t _ e = refl

-- which tokens stand where a step, and what stands behind a point, may begin

abbrev kind_part : GrammarKind → ℕ
kind_part (kind.Mark mark.Point) = 1
kind_part (kind.Mark mark.OpenBracket) = 2
kind_part (kind.Mark mark.OpenParen) = 3
kind_part (kind.Name n property.Length) = 4
kind_part (kind.Name n property.Description) = 4
kind_part (kind.Name n (property.Method m)) = 5
kind_part (kind.Name n p) = 6
kind_part (kind.Word w number) = 6
kind_part _ = 0

abbrev pub part : GrammarToken → ℕ
part t = kind_part t.kind

pub point_of : IsOf part point 1
point_of = record { is = λ t x e. go t t.kind x e }
  where
    go : (t : GrammarToken) (k : GrammarKind) (x : _) → point (with_kind t k) ≡ Some x → part (with_kind t k) ≡ 1
    go t (kind.Mark mark.Point) x e = refl
    go t _ x e = cc

pub bracket_of : IsOf part open_bracket 2
bracket_of = record { is = λ t x e. go t t.kind x e }
  where
    go : (t : GrammarToken) (k : GrammarKind) (x : _) → open_bracket (with_kind t k) ≡ Some x → part (with_kind t k) ≡ 2
    go t (kind.Mark mark.OpenBracket) x e = refl
    go t _ x e = cc

pub paren_of : IsOf part opening 3
paren_of = record { is = λ t x e. go t t.kind x e }
  where
    go : (t : GrammarToken) (k : GrammarKind) (x : _) → opening (with_kind t k) ≡ Some x → part (with_kind t k) ≡ 3
    go t (kind.Mark mark.OpenParen) x e = refl
    go t _ x e = cc

pub member_of : IsOf part member_word 4
member_of = record { is = λ t x e. go t t.kind x e }
  where
    go : (t : GrammarToken) (k : GrammarKind) (x : StepTree) → member_word (with_kind t k) ≡ Some x → part (with_kind t k) ≡ 4
    go t (kind.Name n property.Length) x e = refl
    go t (kind.Name n property.Description) x e = refl
    go t _ x e = cc

pub method_of : (tables : TokenTables) → IsOf part (method tables) 5
method_of tables = record { is = λ t x e. go t t.kind x e }
  where
    go : (t : GrammarToken) (k : GrammarKind) (x : (ℕ × Method) × List ℕ) → method tables (with_kind t k) ≡ Some x → part (with_kind t k) ≡ 5
    go t (kind.Name n (property.Method m)) x e = refl
    go t _ x e = cc

pub property_of : (tables : TokenTables) → IsOf part (property_word tables) 6
property_of tables = record { is = λ t x e. go t t.kind x e }
  where
    go : (t : GrammarToken) (k : GrammarKind) (x : StepTree) → property_word tables (with_kind t k) ≡ Some x → part (with_kind t k) ≡ 6
    go t (kind.Name n property.Length) x e = cc
    go t (kind.Name n property.Description) x e = cc
    go t (kind.Name n (property.Method m)) x e = cc
    go t (kind.Name n p) x e = refl
    go t (kind.Word w number) x e = refl
    go t _ x e = cc

-- a step begins with a point or a bracket

abbrev pub is_step : GrammarToken → Bool
is_step t = is_some (step_mark t)

pub point_step : (t : GrammarToken) (x : Unit {0}) → point t ≡ Some x → is_step t ≡ true
point_step t x e = go t t.kind x e
  where
    go : (t : GrammarToken) (k : GrammarKind) (x : Unit {0}) → point (with_kind t k) ≡ Some x → is_step (with_kind t k) ≡ true
    go t (kind.Mark mark.Point) x e = refl
    go t _ x e = cc

pub bracket_step : (t : GrammarToken) (x : ℕ) → open_bracket t ≡ Some x → is_step t ≡ true
bracket_step t x e = go t t.kind x e
  where
    go : (t : GrammarToken) (k : GrammarKind) (x : ℕ) → open_bracket (with_kind t k) ≡ Some x → is_step (with_kind t k) ≡ true
    go t (kind.Mark mark.OpenBracket) x e = refl
    go t _ x e = cc

-- what begins a step goes on with no arguments
pub step_no_args : (t : GrammarToken) → is_step t ≡ true → nat_lt (level_of t) 8 ≡ true
step_no_args t e = go t t.kind e
  where
    go : (t : GrammarToken) (k : GrammarKind) → is_step (with_kind t k) ≡ true → nat_lt (kind_level k) 8 ≡ true
    go t (kind.Mark mark.Point) e = refl
    go t (kind.Mark mark.OpenBracket) e = refl
    go t _ e = cc

-- a key isn't the end of an object literal

abbrev kind_entry : GrammarKind → ℕ
kind_entry (kind.Text n k) = 1
kind_entry (kind.Number n) = 1
kind_entry (kind.Name n p) = 1
kind_entry (kind.Word w number) = 1
kind_entry _ = 0

abbrev pub entry_class : GrammarToken → ℕ
entry_class t = kind_entry t.kind

pub key_of : (tables : TokenTables) → IsOf entry_class (key tables) 1
key_of tables = record { is = λ t x e. go t t.kind x e }
  where
    go : (t : GrammarToken) (k : GrammarKind) (x : List ℕ) → key tables (with_kind t k) ≡ Some x → entry_class (with_kind t k) ≡ 1
    go t (kind.Text n k) x e = refl
    go t (kind.Number n) x e = refl
    go t (kind.Name n p) x e = refl
    go t (kind.Word w number) x e = refl
    go t _ x e = cc

pub close_brace_of : IsOf entry_class close_brace 0
close_brace_of = record { is = λ t x e. go t t.kind x e }
  where
    go : (t : GrammarToken) (k : GrammarKind) (x : _) → close_brace (with_kind t k) ≡ Some x → entry_class (with_kind t k) ≡ 0
    go t (kind.Mark mark.CloseBrace) x e = refl
    go t _ x e = cc
