-- Helpers: no public contract reaches these definitions.
-- The test of an identifier that can't be a name.
use Rattle.std.specs.Prelude.{ℕ, List, ◌++◌, Bool}
use Rattle.std.specs.List.{list_any}
use Rattle.std.specs.Str.{bytes_eq}
use Rattle.parse_tokens.specs.Words.{reserved_words, kept_words}

-- whether an identifier can't be a name
abbrev pub is_reserved : List ℕ → Bool
is_reserved letters = list_any (bytes_eq letters) (reserved_words ++ kept_words)
