-- Strings joined (ECMA-262, "Array.prototype.join").
use Rattle.std.specs.Prelude.{ℕ, List, [], ◌∷◌, ◌++◌}

-- the strings with the separator before each
abbrev pub with_each : List ℕ → List (List ℕ) → List ℕ
with_each sep [] = []
with_each sep (u ∷ us) = sep ++ u ++ with_each sep us

-- the strings with the separator between two
abbrev pub joined : List ℕ → List (List ℕ) → List ℕ
joined sep [] = []
joined sep (u ∷ us) = u ++ with_each sep us
