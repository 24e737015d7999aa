-- Helpers: no public contract reaches these definitions.
-- What is in front of the rest: of the places of matches, of a template, and of the units of a string.
use Rattle.std.specs.Prelude.{ℕ, ◌==◌, if◌then◌else◌, List, [], ◌∷◌, ◌++◌, map, Option, None}
use Rattle.std.specs.Option.{option_map_or}
use Rattle.js_replace.specs.Substitution.{reference}

-- a place, if there is one, and those that are found from its end on
abbrev pub and_on : Option ℕ → (ℕ → List ℕ) → List ℕ
and_on place more = option_map_or (λ k. k ∷ more k) place []

-- what the first two units of a template expand to, where they are a reference
abbrev pub front_reference : ℕ → ℕ → List ℕ → ℕ → List ℕ → Option (List ℕ)
front_reference first second u at w = if first == 0x24 then reference second u at w else None

-- what a reference expands to, before what the rest expands to; or the unit itself, which isn't the first of
-- one, before what the rest behind it expands to
abbrev pub by_front : Option (List ℕ) → ℕ → List ℕ → List ℕ → List ℕ
by_front text unit behind_both behind_one = option_map_or (λ t. t ++ behind_both) text (unit ∷ behind_one)

-- each unit by itself
abbrev pub singles : List ℕ → List (List ℕ)
singles u = map (λ unit. unit ∷ []) u
