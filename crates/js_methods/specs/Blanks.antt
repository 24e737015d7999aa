-- Helpers: no public contract reaches these definitions.
-- The blank units at the start of a string.
use Rattle.std.specs.Prelude.{ℕ, List}
use Rattle.std.specs.List.{prefix_len}
use Rattle.js_units.specs.Text.{is_blank}

-- how many of the first units are blank
abbrev pub blanks : List ℕ → ℕ
blanks u = prefix_len is_blank u
