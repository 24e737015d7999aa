-- Helpers: no public contract reaches these definitions.
-- The parts of a quoted string.
use Rattle.std.specs.Prelude.{ℕ, Bool, nat_lt, ◌||◌, List}
use Rattle.std.specs.List.{flat_map}
use Rattle.js_units.specs.Text.{is_lead, is_trail, points}
use Rattle.js_json.specs.Quoting.{escaped, letter_of}

-- whether a code point without a letter is shown by its digits
abbrev pub is_escaped : ℕ → Bool
is_escaped c = nat_lt c 0x20 || is_lead c || is_trail c

-- the units of a code point between the quotes
abbrev pub quoted_point : ℕ → List ℕ
quoted_point c = escaped (letter_of c) c

-- all that is between the quotes
abbrev pub body : List ℕ → List ℕ
body us = flat_map quoted_point (points us)
