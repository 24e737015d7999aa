-- The marks and their spelling (ECMA-262, "Punctuators"); of those that are in front the longest is the
-- token.
use Rattle.std.specs.Prelude.{◌≡◌, ℕ, ◌≤◌, List, ◌++◌, codes, length}
use Rattle.js_lex.specs.declared.token.Mark.{Mark}
use Rattle.js_lex.specs.declared.token.Mark.TheVariants.{StrictEqual, StrictUnequal, AtMost, AtLeast, And}
use Rattle.js_lex.specs.declared.token.Mark.TheVariants.{Or, AddAssign, Increment, Decrement, OpenBrace}
use Rattle.js_lex.specs.declared.token.Mark.TheVariants.{CloseBrace, OpenParen, CloseParen, OpenBracket}
use Rattle.js_lex.specs.declared.token.Mark.TheVariants.{CloseBracket, Point, Semicolon, Comma, Less}
use Rattle.js_lex.specs.declared.token.Mark.TheVariants.{Greater, Plus, Minus, Not, Question, Colon, Assign}

-- the characters of a mark
abbrev pub spelling : Mark → List ℕ
spelling StrictEqual = codes "==="
spelling StrictUnequal = codes "!=="
spelling AtMost = codes "<="
spelling AtLeast = codes ">="
spelling And = codes "&&"
spelling Or = codes "||"
spelling AddAssign = codes "+="
spelling Increment = codes "++"
spelling Decrement = codes "--"
spelling OpenBrace = codes "{"
spelling CloseBrace = codes "}"
spelling OpenParen = codes "("
spelling CloseParen = codes ")"
spelling OpenBracket = codes "["
spelling CloseBracket = codes "]"
spelling Point = codes "."
spelling Semicolon = codes ";"
spelling Comma = codes ","
spelling Less = codes "<"
spelling Greater = codes ">"
spelling Plus = codes "+"
spelling Minus = codes "-"
spelling Not = codes "!"
spelling Question = codes "?"
spelling Colon = codes ":"
spelling Assign = codes "="

-- the mark is in front, rest follows it, and no longer one is there
pub record IsLongest (s : List ℕ) (m : Mark) (rest : List ℕ) : Type 0 where
  pub stands : s ≡ spelling m ++ rest
  pub longest : (n : Mark) (other : List ℕ) → s ≡ spelling n ++ other
      → length (spelling n) ≤ length (spelling m)
