-- The parts of a string (ECMA-262, "String.prototype.split").
use Rattle.std.specs.Prelude.{ℕ, ◌+◌, List, [], ◌∷◌, length, map, take, drop, slice_range, Option, Some, None}
use Rattle.js_replace.specs.Matches.{matches}

-- the pieces of u from `from` on between separators of `size` units at the places, the rest last
abbrev pub pieces : List ℕ → ℕ → ℕ → List ℕ → List (List ℕ)
pieces u size from [] = drop from u ∷ []
pieces u size from (k ∷ ks) = slice_range u from k ∷ pieces u size (k + size) ks

-- all parts: those between separators, each unit by itself where the separator is empty, and the whole where
-- there is none
abbrev pub all_parts : List ℕ → Option (List ℕ) → List (List ℕ)
all_parts u None = u ∷ []
all_parts u (Some []) = map (λ unit. unit ∷ []) u
all_parts [] (Some (x ∷ w)) = [] ∷ []
all_parts (y ∷ u) (Some (x ∷ w)) = pieces (y ∷ u) (length (x ∷ w)) 0 (matches (y ∷ u) (x ∷ w))

-- the parts, at most `limit` of them
abbrev pub parts : List ℕ → Option (List ℕ) → ℕ → List (List ℕ)
parts u sep limit = take limit (all_parts u sep)
