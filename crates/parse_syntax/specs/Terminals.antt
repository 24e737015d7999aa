-- What each token is to the grammar. A terminal is a function from a token to an optional value; so one
-- identifier may be a name at one place and a property at another.
use Rattle.std.specs.Prelude.{ℕ, Bool, true, false, not, nat_eq, nat_lt, ◌&&◌, if◌then◌else◌, codes}
use Rattle.std.specs.Prelude.{decimal, List, [], ◌∷◌, Option, Some, None, get_or}
use Rattle.std.specs.Bool.{then_some}
use Rattle.std.specs.Str.{bytes_eq}
use Rattle.js_lex.specs.declared.token.Mark.{Mark}
use Rattle.js_lex.specs.declared.token.Mark.TheVariants.{Assign, AddAssign, Increment}
use Rattle.js_lex.specs.Marks.{spelling}
use Rattle.parse_syntax.specs.declared.token.GrammarToken.{GrammarToken}
use Rattle.parse_syntax.specs.declared.token.GrammarKind.TheVariants as kind
use Rattle.parse_syntax.specs.declared.token.Word.{Word}
use Rattle.parse_syntax.specs.declared.token.Word.TheVariants as words
use Rattle.parse_syntax.specs.declared.token.Property.TheVariants as property
use Rattle.eval_tree.specs.declared.tree.Method.{Method}
use Rattle.eval_tree.specs.declared.tree.Builtin.{Builtin}
use Rattle.eval_tree.specs.declared.tree.Builtin.TheVariants as builtin
use Rattle.eval_tree.specs.Tree as tree
use Rattle.eval_tree.specs.Tree.{ExprTree, StepTree}
use Rattle.parse_syntax.specs.Tables.{TokenTables}

-- marks

-- the token is this mark
abbrev pub is_mark : Mark → GrammarToken → Bool
is_mark m t = elim t.kind [ kind.Mark n ↦ bytes_eq (spelling n) (spelling m) | _ ↦ false ]

-- this mark
abbrev pub mark : Mark → GrammarToken → Option (Unit {0})
mark m t = then_some (is_mark m t) tt

-- this mark: its offset
abbrev pub at_mark : Mark → GrammarToken → Option ℕ
at_mark m t = then_some (is_mark m t) t.at

-- = or += : the offset of +=
abbrev pub assign_op : GrammarToken → Option (Option ℕ)
assign_op t = if is_mark Assign t then Some None else then_some (is_mark AddAssign t) (Some t.at)

-- ++ with no line end before it
abbrev pub increment : GrammarToken → Option (Unit {0})
increment t = then_some (is_mark Increment t && not t.after_line) tt

-- identifiers that are no names

-- the letters of an identifier that means something where it is no name
abbrev pub letters_of : Word → List ℕ
letters_of words.Let = codes "let"
letters_of words.Const = codes "const"
letters_of words.Print = codes "print"
letters_of words.If = codes "if"
letters_of words.Else = codes "else"
letters_of words.For = codes "for"
letters_of words.Undefined = codes "undefined"
letters_of words.Null = codes "null"
letters_of words.True = codes "true"
letters_of words.False = codes "false"
letters_of words.NaN = codes "NaN"
letters_of words.Infinity = codes "Infinity"
letters_of words.String = codes "String"
letters_of words.Symbol = codes "Symbol"
letters_of words.Json = codes "JSON"
letters_of words.Object = codes "Object"
letters_of words.EncodeUri = codes "encodeURI"
letters_of words.EncodeUriComponent = codes "encodeURIComponent"
letters_of words.DecodeUri = codes "decodeURI"
letters_of words.DecodeUriComponent = codes "decodeURIComponent"
letters_of words.Reserved = []

-- the token is this identifier
abbrev pub is_word : Word → GrammarToken → Bool
is_word w t = elim t.kind [ kind.Word v n ↦ bytes_eq (letters_of v) (letters_of w) | _ ↦ false ]

-- this identifier
abbrev pub word : Word → GrammarToken → Option (Unit {0})
word w t = then_some (is_word w t) tt

-- this identifier: its offset
abbrev pub at_word : Word → GrammarToken → Option ℕ
at_word w t = then_some (is_word w t) t.at

-- the first in a table of marks or identifiers that the token is: its offset, and its value in the table
abbrev pub among : {K A : Type 0} → (K → GrammarToken → Bool) → List (K × A) → GrammarToken → Option (ℕ × A)
among is [] t = None
among is (row ∷ rows) t = if is row.0 t then Some (t.at, row.1) else among is rows t

-- the directive 'use strict' ("Directive Prologues and the Use Strict Directive")
abbrev pub directive : GrammarToken → Option (Unit {0})
directive t = elim t.kind [ kind.Directive ↦ Some tt | _ ↦ None ]

-- names

-- a name where it is: its offset, and the number of its letters
pub record Identifier : Type 0 where
  pub at : ℕ
  pub number : ℕ

-- a name, as a declaration or an expression has it: its offset, and the number of its letters
-- ("BindingIdentifier", "IdentifierReference")
abbrev pub name : GrammarToken → Option Identifier
name t = elim t.kind [ kind.Name n p ↦ Some (record { at = t.at; number = n }) | _ ↦ None ]

-- a name with these letters
abbrev pub the_name : ℕ → GrammarToken → Option (Unit {0})
the_name m t = elim t.kind [ kind.Name n p ↦ then_some (nat_eq n m) tt | _ ↦ None ]

-- what follows a point

-- the identifier length or description behind a point: the read that it is
abbrev pub member_word : GrammarToken → Option StepTree
member_word t = elim t.kind [
  | kind.Name n property.Length ↦ Some tree.of_length
  | kind.Name n property.Description ↦ Some tree.of_description
  | _ ↦ None
]

-- an identifier that is the name of a method: its offset, the method and its letters
abbrev pub method : TokenTables → GrammarToken → Option ((ℕ × Method) × List ℕ)
method tables t =
    elim t.kind [ kind.Name n (property.Method m) ↦ Some ((t.at, m), get_or tables.names n []) | _ ↦ None ]

-- any other identifier behind a point, reserved words among them: the read of the property of that name
-- ("EvaluatePropertyAccessWithIdentifierKey")
abbrev pub property_word : TokenTables → GrammarToken → Option StepTree
property_word tables t = elim t.kind [
  | kind.Name n property.Length ↦ None
  | kind.Name n property.Description ↦ None
  | kind.Name n (property.Method m) ↦ None
  | kind.Name n p ↦ Some (tree.of_property t.at (get_or tables.names n []))
  | kind.Word w n ↦ Some (tree.of_property t.at (get_or tables.names n []))
  | _ ↦ None
]

-- the identifier fromCharCode or fromCodePoint behind String and a point: the function ("Properties of the
-- String Constructor")
abbrev pub from_word : GrammarToken → Option Builtin
from_word t = elim t.kind [
  | kind.Name n property.FromCharCode ↦ Some builtin.FromCharCode
  | kind.Name n property.FromCodePoint ↦ Some builtin.FromCodePoint
  | _ ↦ None
]

-- the identifier for or keyFor behind Symbol and a point:
-- the function ("Properties of the Symbol Constructor")
abbrev pub symbol_function : GrammarToken → Option Builtin
symbol_function t = elim t.kind [
  | kind.Word words.For n ↦ Some builtin.SymbolFor
  | kind.Name n property.KeyFor ↦ Some builtin.KeyFor
  | _ ↦ None
]

-- the identifier stringify behind JSON and a point: the function ("JSON.stringify")
abbrev pub stringify_word : GrammarToken → Option Builtin
stringify_word t = elim t.kind [ kind.Name n property.Stringify ↦ Some builtin.Stringify | _ ↦ None ]

-- the identifier keys behind Object and a point: the function ("Object.keys")
abbrev pub keys_word : GrammarToken → Option Builtin
keys_word t = elim t.kind [ kind.Name n property.Keys ↦ Some builtin.Keys | _ ↦ None ]

-- the key of a member of an object literal (ECMA-262, "LiteralPropertyName"): the letters of any identifier,
-- the units of a string, or the decimal digits of a number
abbrev pub key : TokenTables → GrammarToken → Option (List ℕ)
key tables t = elim t.kind [
  | kind.Text n k ↦ Some (get_or tables.keys n [])
  | kind.Number n ↦ Some (decimal n)
  | kind.Name n p ↦ Some (get_or tables.names n [])
  | kind.Word w n ↦ Some (get_or tables.names n [])
  | _ ↦ None
]

-- numbers

-- the number 0
abbrev pub nought : GrammarToken → Option (Unit {0})
nought t = elim t.kind [ kind.Number n ↦ then_some (nat_eq n 0) tt | _ ↦ None ]

-- a number of at most 1,000,000
abbrev pub bound_number : GrammarToken → Option ℕ
bound_number t = elim t.kind [ kind.Number n ↦ then_some (nat_lt n 1000001) n | _ ↦ None ]

-- an identifier that is an expression alone
abbrev pub constant : Word → Option ExprTree
constant words.Undefined = Some tree.undefined
constant words.Null = Some tree.null
constant words.True = Some (tree.bool true)
constant words.False = Some (tree.bool false)
constant words.NaN = Some tree.nan
constant words.Infinity = Some tree.infinity
constant _ = None

-- a token that is an expression alone. So is each string: whether it is a key shows only at the token behind
-- it, and in a whole script a key precedes the colon of a member alone
abbrev pub simple : TokenTables → GrammarToken → Option ExprTree
simple tables t = elim t.kind [
  | kind.Text n k ↦ Some (tree.literal n)
  | kind.Number n ↦ Some (tree.number n)
  | kind.Name n p ↦ Some (tree.variable (get_or tables.names n []))
  | kind.Word w n ↦ constant w
  | _ ↦ None
]

-- whether a token that isn't allowed at its place is an identifier
abbrev pub is_word_token : GrammarToken → Bool
is_word_token t = elim t.kind [ kind.Name n p ↦ true | kind.Word w n ↦ true | _ ↦ false ]
