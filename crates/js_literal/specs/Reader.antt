-- Helpers: no public contract reaches these definitions.
-- What the code reads at the front of a string literal's inside, for the contracts of private functions.
use Rattle.std.specs.Prelude.{ℕ, ◌+◌, ◌*◌, List, [], ◌∷◌, Option, Some, None, Bool, nat_le, ◌==◌, not, ◌&&◌}
use Rattle.std.specs.Prelude.{◌||◌, if◌then◌else◌}
use Rattle.std.specs.Str.{chars}
use Rattle.js_units.specs.Text.{utf16_of}
use Rattle.js_literal.specs.Literal.{hex_value, letter_unit, is_digit, begins_with, StringFaultKind}
use Rattle.js_literal.specs.Literal.{Unclosed, RawLineEnd, BadEscape, CodePointTooLarge, LegacyOctal}
use Rattle.js_literal.specs.declared.front.LiteralFront.{LiteralFront}
use Rattle.js_literal.specs.declared.front.LiteralFront.TheVariants as code
use Rattle.js_literal.specs.declared.front.PieceUnits.{PieceUnits}
use Rattle.js_literal.specs.declared.front.PieceUnits.TheVariants as value
use Rattle.js_literal.specs.declared.front.PieceFault.{PieceFault}
use Rattle.js_literal.specs.declared.front.PieceFault.TheVariants as refusal

-- a digit is the first of the characters
abbrev pub begins_digit : List ℕ → Bool
begins_digit s = begins_with is_digit s

-- a line feed is the first of the characters
abbrev pub begins_line_feed : List ℕ → Bool
begins_line_feed s = begins_with (λ c. c == 10) s

-- a piece with its units and the rest, the closing quote with the rest, or what is refused
pub data Reading : Type 0 where
  Take : List ℕ → List ℕ → Reading
  Shut : List ℕ → Reading
  Break : StringFaultKind → Reading

-- a hexadecimal digit after a value: the new value, and what follows
abbrev pub hex_front : ℕ → List ℕ → Option (ℕ × List ℕ)
hex_front v [] = None
hex_front v (c ∷ cs) = go (hex_value c)
  where
    go : Option ℕ → Option (ℕ × List ℕ)
    go None = None
    go (Some d) = Some (16 * v + d, cs)

infixl 10 ◌>>=◌
abbrev pub ◌>>=◌ : {A B : Type 0} → Option A → (A → Option B) → Option B
None >>= f = None
(Some x) >>= f = f x

abbrev pub two_front : ℕ → List ℕ → Option (ℕ × List ℕ)
two_front v s = hex_front v s >>= λ p. hex_front p.0 p.1

abbrev pub four_front : List ℕ → Option (ℕ × List ℕ)
four_front s = two_front 0 s >>= λ p. two_front p.0 p.1

abbrev pub by_value : {A B : Type 0} → B → (A → B) → Option A → B
by_value none some None = none
by_value none some (Some x) = some x

-- all digits that follow a value
abbrev pub hex_run : ℕ → List ℕ → ℕ × List ℕ
hex_run v [] = (v, [])
hex_run v (c ∷ cs) = by_value (v, c ∷ cs) (λ d. hex_run (16 * v + d) cs) (hex_value c)

abbrev pub one_unit : Option (ℕ × List ℕ) → Reading
one_unit None = Break BadEscape
one_unit (Some p) = Take (p.0 ∷ []) p.1

abbrev pub close_braces : ℕ → List ℕ → Reading
close_braces v [] = Break BadEscape
close_braces v (c ∷ rest) = if c == 125
    then (if nat_le v 0x10FFFF then Take (utf16_of v) rest else Break CodePointTooLarge) else Break BadEscape

abbrev pub run_braces : Option (ℕ × List ℕ) → Reading
run_braces None = Break BadEscape
run_braces (Some p) = let r = hex_run p.0 p.1 in close_braces r.0 r.1

abbrev pub braces_of : List ℕ → Reading
braces_of s = run_braces (hex_front 0 s)

abbrev pub unicode_of : List ℕ → Reading
unicode_of [] = Break BadEscape
unicode_of (c ∷ s) = if c == 123 then braces_of s else one_unit (four_front (c ∷ s))

abbrev pub after_return : List ℕ → List ℕ
after_return [] = []
after_return (c ∷ s) = if c == 10 then s else c ∷ s

abbrev pub other_escape : ℕ → List ℕ → Reading
other_escape c rest =
    if c == 48 then (if begins_digit rest then Break LegacyOctal else Take (0 ∷ []) rest) else
    (if nat_le 49 c && nat_le c 57 then Break LegacyOctal else
    (if c == 120 then one_unit (two_front 0 rest) else
    (if c == 117 then unicode_of rest else
    (if c == 13 then Take [] (after_return rest) else
    (if c == 10 || c == 0x2028 || c == 0x2029 then Take [] rest else
    Take (utf16_of c) rest)))))

abbrev pub chosen_escape : Option ℕ → ℕ → List ℕ → Reading
chosen_escape (Some u) c rest = Take (u ∷ []) rest
chosen_escape None c rest = other_escape c rest

unfoldable pub escape_of : List ℕ → Reading
escape_of [] = Break Unclosed
escape_of (c ∷ rest) = chosen_escape (letter_unit c) c rest

unfoldable pub reading : ℕ → List ℕ → Reading
reading q [] = Break Unclosed
reading q (c ∷ rest) = if c == q then Shut rest else (if c == 92 then escape_of rest
    else (if c == 10 || c == 13 then Break RawLineEnd else Take (utf16_of c) rest))

-- a printable character of ASCII that denotes itself: neither the quote nor a backslash
abbrev pub is_plain : ℕ → ℕ → Bool
is_plain q c = nat_le 32 c && nat_le c 126 && not (c == q) && not (c == 92)

-- the longest run of such characters in front, and what follows it
abbrev pub plain_run : ℕ → List ℕ → List ℕ
plain_run q [] = []
plain_run q (c ∷ s) = if is_plain q c then c ∷ plain_run q s else []

abbrev pub after_plain : ℕ → List ℕ → List ℕ
after_plain q [] = []
after_plain q (c ∷ s) = if is_plain q c then after_plain q s else c ∷ s

-- the code's values
abbrev pub value_units : PieceUnits → List ℕ
value_units value.Nothing = []
value_units (value.Char c) = utf16_of c
value_units (value.Unit u) = u ∷ []

abbrev pub kind_of : PieceFault → StringFaultKind
kind_of refusal.Unclosed = Unclosed
kind_of refusal.RawLineEnd = RawLineEnd
kind_of refusal.BadEscape = BadEscape
kind_of refusal.CodePointTooLarge = CodePointTooLarge
kind_of refusal.LegacyOctal = LegacyOctal

abbrev pub reading_of : LiteralFront → Reading
reading_of (code.Piece x rest) = Take (value_units x) (chars rest.now)
reading_of (code.Close rest) = Shut (chars rest.now)
reading_of (code.Refused t) = Break (kind_of t)

-- a value and the characters of what follows
abbrev pub seen : ℕ → List ℕ → ℕ × List ℕ
seen v text = (v, chars text)
