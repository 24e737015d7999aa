-- Where the matches of a string are that `replaceAll` and `split` find (ECMA-262,
-- "String.prototype.replaceAll", "String.prototype.split").
use Rattle.std.specs.Prelude.{◌≡◌, ℕ, zero, suc, ◌+◌, ◌≤◌, max, List, [], ◌∷◌, length, Some, None}
use Rattle.std.specs.Option.{option_map_or}
use Rattle.js_search.specs.Places.{first}

-- the places of the matches of w in u from `from` on: the least place, and after each the least from its end
-- on, or from one place further where w is empty
abbrev pub AreMatches : List ℕ → List ℕ → ℕ → List ℕ → Type 0
AreMatches u w from [] = first u w from ≡ None
AreMatches u w from (k ∷ ks) = (first u w from ≡ Some k) × AreMatches u w (k + max 1 (length w)) ks

-- Both as functions, for definitions that go on from the places.

-- the first n of them
abbrev pub first_matches : ℕ → List ℕ → List ℕ → ℕ → List ℕ
first_matches zero u w from = []
first_matches (suc n) u w from =
    option_map_or (λ k. k ∷ first_matches n u w (k + max 1 (length w))) (first u w from) []

-- all matches: a string has at most one more than it has units
unfoldable pub matches : List ℕ → List ℕ → List ℕ
matches u w = first_matches (suc (length u)) u w 0

-- places in a string of `len` units at which a needle of `size` units has room,
-- each at or after the end of the one before it
abbrev pub InOrder : ℕ → ℕ → ℕ → List ℕ → Type 0
InOrder len size from [] = from ≤ len
InOrder len size from (k ∷ ks) = (from ≤ k) × (k + size ≤ len) × InOrder len size (k + size) ks
