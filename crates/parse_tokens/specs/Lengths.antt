-- Helpers: no public contract reaches these definitions.
-- The identifiers that can't be names, by their length, for the contracts of private functions.
use Rattle.std.specs.Prelude.{ℕ, Bool, true, false, List, [], ◌∷◌, ◌++◌, length, nat_eq, filter}
use Rattle.std.specs.Prelude.{if◌then◌else◌}
use Rattle.parse_tokens.specs.Words.{reserved_words, kept_words}

-- those of n letters, in the order of the two lists
abbrev pub of_length : ℕ → List (List ℕ)
of_length n = filter (λ w. nat_eq (length w) n) (reserved_words ++ kept_words)

-- identifiers with a blank behind each
abbrev pub spaced : List (List ℕ) → List ℕ
spaced [] = []
spaced (w ∷ ws) = w ++ (32 ∷ spaced ws)

-- whether each identifier has n letters
abbrev pub all_have : ℕ → List (List ℕ) → Bool
all_have n [] = true
all_have n (w ∷ ws) = if nat_eq (length w) n then all_have n ws else false
