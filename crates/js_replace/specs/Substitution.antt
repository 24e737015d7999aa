-- What a template expands to at a match (ECMA-262, "GetSubstitution", without captures).
use Rattle.std.specs.Prelude.{ℕ, ◌+◌, ◌==◌, if◌then◌else◌, List, [], ◌∷◌, ◌++◌, length, take, drop, Option}
use Rattle.std.specs.Prelude.{Some, None}
use Rattle.std.specs.Option.{option_map_or}

-- what a dollar sign and the unit behind it expand to, where they are a reference: `$$` for a dollar sign,
-- `$&` for the match w, which occurs in u at `at`, "$`" for the part of u before it, and `$'` for the part
-- after it. Without captures a digit or `<` makes none.
abbrev pub reference : ℕ → List ℕ → ℕ → List ℕ → Option (List ℕ)
reference unit u at w = if unit == 0x24 then Some (0x24 ∷ []) else if unit == 0x26 then Some w
    else if unit == 0x60 then Some (take at u)
    else if unit == 0x27 then Some (drop (at + length w) u) else None

-- the template t at the match w, which occurs in u at `at`: each reference expanded, each other unit itself
abbrev pub substituted : List ℕ → List ℕ → ℕ → List ℕ → List ℕ
substituted [] u at w = []
substituted (c ∷ []) u at w = c ∷ []
substituted (c ∷ d ∷ t) u at w = option_map_or (λ text. text ++ substituted t u at w)
    (if c == 0x24 then reference d u at w else None) (c ∷ substituted (d ∷ t) u at w)
