-- Helpers: no public contract reaches these definitions.
-- The pieces that decoding goes by, as parts of the units.
use Rattle.std.specs.Prelude.{ℕ, List, take, length}
use Rattle.js_units.specs.Text.{utf16_of}
use Rattle.js_uri.specs.declared.decoding.Piece.{Piece}
use Rattle.js_uri.specs.declared.decoding.Piece.TheVariants.{Same, Char}
use Rattle.js_uri.specs.Decoding.{DecodedPart}

abbrev pub taken_by : Piece → ℕ
taken_by (Same n) = n
taken_by (Char c taken) = taken

abbrev pub length_of : Piece → ℕ
length_of (Same n) = n
length_of (Char c taken) = length (utf16_of c)

-- the units that it gives in front of these
abbrev pub units_given : Piece → List ℕ → List ℕ
units_given (Same n) us = take n us
units_given (Char c taken) us = utf16_of c

abbrev pub seen : Piece → List ℕ → DecodedPart
seen p us = record { units = units_given p us; taken = taken_by p }
