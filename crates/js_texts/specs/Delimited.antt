-- Strings between separators.
use Rattle.std.specs.Prelude.{ℕ, List, [], ◌∷◌, ◌++◌}

-- strings by f, with a unit before each, and one behind all
abbrev pub rest_of : (List ℕ → List ℕ) → ℕ → ℕ → List (List ℕ) → List ℕ
rest_of f sep end [] = end ∷ []
rest_of f sep end (u ∷ us) = sep ∷ f u ++ rest_of f sep end us

-- strings by f, with a unit between two, and one behind all
abbrev pub delimited : (List ℕ → List ℕ) → ℕ → ℕ → List (List ℕ) → List ℕ
delimited f sep end [] = end ∷ []
delimited f sep end (u ∷ us) = f u ++ rest_of f sep end us
