-- String literals in strict code, on characters (ECMA-262, "String Literals"): what may be between two
-- quotes, what it denotes, and what is refused where.
use Rattle.std.specs.Prelude.{◌≡◌, ℕ, ◌+◌, ◌-◌, ◌*◌, ◌<◌, ◌≤◌, List, [], ◌∷◌, ◌++◌, Bool, true, false}
use Rattle.std.specs.Prelude.{Option, Some, None, nat_le, ◌==◌, ◌&&◌, ◌||◌, if◌then◌else◌, option_and_then}
use Rattle.std.specs.Prelude.{length, slice_index}
use Rattle.js_units.specs.Text.{utf16_of}
use Rattle.js_literal.specs.Place.{StandsAt}
use Rattle.js_literal.specs.declared.fault.LiteralFault.{LiteralFault}
use Rattle.js_literal.specs.declared.fault.LiteralFault.TheVariants as faults

-- " and '
abbrev pub is_quote : ℕ → Bool
is_quote c = c == 34 || c == 39

-- a digit, 0 to 9 ("DecimalDigit")
abbrev pub is_digit : ℕ → Bool
is_digit c = nat_le 48 c && nat_le c 57

-- the value of a hexadecimal digit
abbrev pub hex_value : ℕ → Option ℕ
hex_value c = if is_digit c then Some (c - 48) else (if nat_le 65 c && nat_le c 70 then Some (c - 55) else
    (if nat_le 97 c && nat_le c 102 then Some (c - 87) else None))

-- the value of hexadecimal digits that follow a number with the value v
abbrev pub hex_number : ℕ → List ℕ → Option ℕ
hex_number v [] = Some v
hex_number v (c ∷ cs) = option_and_then (λ d. hex_number (16 * v + d) cs) (hex_value c)

-- the unit of b t n v f r ("SingleEscapeCharacter")
abbrev pub letter_unit : ℕ → Option ℕ
letter_unit c = if c == 98 then Some 8 else (if c == 116 then Some 9 else (if c == 110 then Some 10 else
    (if c == 118 then Some 11 else (if c == 102 then Some 12 else (if c == 114 then Some 13 else None)))))

-- the first of the characters passes this test
abbrev pub begins_with : (ℕ → Bool) → List ℕ → Bool
begins_with test [] = false
begins_with test (c ∷ cs) = test c

-- a character that denotes itself in a string in these quotes: any but the quote, the backslash, LF and CR
abbrev pub is_plain : ℕ → ℕ → Bool
is_plain q c = if c == q then false
    else (if c == 92 then false else (if c == 10 then false else (if c == 13 then false else true)))

-- denotes itself after a backslash
abbrev pub is_itself : ℕ → Bool
is_itself c = if is_digit c || c == 120 || c == 117 then false
    else (if c == 10 || c == 13 || c == 0x2028 || c == 0x2029 then false else true)

-- what precedes rest, and its units: a character for itself, or a row of the table of escapes
-- ("SingleStringCharacter", "EscapeSequence", "LineContinuation", "static semantics: SV")
pub data LiteralPiece (q : ℕ) : List ℕ → List ℕ → List ℕ → Type 0 where
  plain : (c : ℕ) (rest : List ℕ) → is_plain q c ≡ true → LiteralPiece q (c ∷ rest) (utf16_of c) rest
  letter : (c u : ℕ) (rest : List ℕ) → letter_unit c ≡ Some u → LiteralPiece q (92 ∷ c ∷ rest) (u ∷ []) rest
  null : (rest : List ℕ) → begins_with is_digit rest ≡ false → LiteralPiece q (92 ∷ 48 ∷ rest) (0 ∷ []) rest
  two : (a b v : ℕ) (rest : List ℕ) → hex_number 0 (a ∷ b ∷ []) ≡ Some v
      → LiteralPiece q (92 ∷ 120 ∷ a ∷ b ∷ rest) (v ∷ []) rest
  four : (a b c d v : ℕ) (rest : List ℕ) → hex_number 0 (a ∷ b ∷ c ∷ d ∷ []) ≡ Some v
      → LiteralPiece q (92 ∷ 117 ∷ a ∷ b ∷ c ∷ d ∷ rest) (v ∷ []) rest
  braces : (d : ℕ) (ds : List ℕ) (v : ℕ) (rest : List ℕ) → hex_number 0 (d ∷ ds) ≡ Some v → v ≤ 0x10FFFF
      → LiteralPiece q (92 ∷ 117 ∷ 123 ∷ d ∷ (ds ++ 125 ∷ rest)) (utf16_of v) rest
  both_ends : (rest : List ℕ) → LiteralPiece q (92 ∷ 13 ∷ 10 ∷ rest) [] rest
  return : (rest : List ℕ) → begins_with (λ c. c == 10) rest ≡ false → LiteralPiece q (92 ∷ 13 ∷ rest) [] rest
  line_end : (c : ℕ) (rest : List ℕ) → (c == 10 || c == 0x2028 || c == 0x2029) ≡ true
      → LiteralPiece q (92 ∷ c ∷ rest) [] rest
  itself : (c : ℕ) (rest : List ℕ) → letter_unit c ≡ None → is_itself c ≡ true
      → LiteralPiece q (92 ∷ c ∷ rest) (utf16_of c) rest

-- pieces up to the closing quote: the characters, their units, and the rest behind the quote
pub data Closed (q : ℕ) : List ℕ → List ℕ → List ℕ → Type 0 where
  close : (rest : List ℕ) → Closed q (q ∷ rest) [] rest
  piece : (s mid rest us vs : List ℕ) → LiteralPiece q s us mid → Closed q mid vs rest
      → Closed q s (us ++ vs) rest

-- the faults of a string literal
pub data StringFaultKind : Type 0 where
  Unclosed RawLineEnd BadEscape CodePointTooLarge LegacyOctal : StringFaultKind

-- u{, digits with a value over 10FFFF, and }
pub data IsCodePointTooLarge : List ℕ → Type 0 where
  large : (d : ℕ) (ds : List ℕ) (v : ℕ) (rest : List ℕ) → hex_number 0 (d ∷ ds) ≡ Some v → 0x10FFFF < v
      → IsCodePointTooLarge (117 ∷ 123 ∷ d ∷ (ds ++ 125 ∷ rest))

-- what is refused at the front of what is left
pub data BreaksLiteral (q : ℕ) : List ℕ → StringFaultKind → Type 0 where
  ended : BreaksLiteral q [] Unclosed
  ended_escape : BreaksLiteral q (92 ∷ []) Unclosed
  raw_line_end : (c : ℕ) (rest : List ℕ) → (c == 10 || c == 13) ≡ true → BreaksLiteral q (c ∷ rest) RawLineEnd
  octal : (c : ℕ) (rest : List ℕ) → (nat_le 49 c && nat_le c 57) ≡ true
      → BreaksLiteral q (92 ∷ c ∷ rest) LegacyOctal
  octal_zero : (rest : List ℕ) → begins_with is_digit rest ≡ true
      → BreaksLiteral q (92 ∷ 48 ∷ rest) LegacyOctal
  too_large : (s : List ℕ) → IsCodePointTooLarge s → BreaksLiteral q (92 ∷ s) CodePointTooLarge
  -- x or u, and neither a row of the table nor too large
  bad : (c : ℕ) (rest : List ℕ) → (c == 120 || c == 117) ≡ true
      → ((us after : List ℕ) → LiteralPiece q (92 ∷ c ∷ rest) us after → ⊥)
      → (IsCodePointTooLarge (c ∷ rest) → ⊥) → BreaksLiteral q (92 ∷ c ∷ rest) BadEscape

-- the first fault, and what is left where it shows
pub data IsBroken (q : ℕ) : List ℕ → StringFaultKind → List ℕ → Type 0 where
  here : (s : List ℕ) (f : StringFaultKind) → BreaksLiteral q s f → IsBroken q s f s
  later : (s mid us left : List ℕ) (f : StringFaultKind) → LiteralPiece q s us mid → IsBroken q mid f left
      → IsBroken q s f left

-- a string literal with these units is at byte at and ends before byte end
pub record LiteralOf (text : List ℕ) (at : ℕ) (units : List ℕ) (end : ℕ) : Type 0 where
  pub q : ℕ
  pub s : List ℕ
  pub rest : List ℕ
  pub starts : StandsAt text at (q ∷ s)
  pub quote : is_quote q ≡ true
  pub closed : Closed q s units rest
  pub ends : StandsAt text end rest

-- Unclosed is at the opening quote, the others are where they show
abbrev pub fault_at : StringFaultKind → ℕ → ℕ → LiteralFault
fault_at Unclosed at place = faults.Unclosed at
fault_at RawLineEnd at place = faults.RawLineEnd place
fault_at BadEscape at place = faults.BadEscape place
fault_at CodePointTooLarge at place = faults.CodePointTooLarge place
fault_at LegacyOctal at place = faults.LegacyOctal place

-- a string literal begins at byte at and has this fault
pub record LiteralFaultOf (text : List ℕ) (at : ℕ) (fault : LiteralFault) : Type 0 where
  pub q : ℕ
  pub s : List ℕ
  pub left : List ℕ
  pub kind : StringFaultKind
  pub here_at : ℕ
  pub starts : StandsAt text at (q ∷ s)
  pub quote : is_quote q ≡ true
  pub broken : IsBroken q s kind left
  pub shows : StandsAt text here_at left
  pub is_fault : fault ≡ fault_at kind at here_at

-- a quote is at byte at
abbrev pub BeginsString : List ℕ → ℕ → Type 0
BeginsString text at = (at < length text) × (is_quote (slice_index text at) ≡ true)
