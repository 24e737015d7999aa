-- The bytes of a printed line.
use Rattle.std.specs.Prelude.{ℕ, List}
use Rattle.js_units.specs.Text.{utf8}
use Rattle.js_texts.specs.Delimited.{rest_of, delimited}

abbrev pub line_rest : List (List ℕ) → List ℕ
line_rest us = rest_of utf8 32 10 us

-- the UTF-8 of the strings, delimited by one space, and a line feed
abbrev pub line : List (List ℕ) → List ℕ
line us = delimited utf8 32 10 us
