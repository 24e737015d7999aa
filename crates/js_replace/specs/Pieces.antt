-- Helpers: no public contract reaches these definitions.
-- What the pieces of a template expand to, into which the code cuts it,
-- and how many units they have together.
use Rattle.std.specs.Prelude.{◌≡◌, ℕ, ◌+◌, ◌-◌, ◌*◌, ◌≤◌, List, [], ◌∷◌, length, take, drop}
use Rattle.js_replace.specs.declared.pieces.Piece.{Piece}
use Rattle.js_replace.specs.declared.pieces.Piece.TheVariants.{Plain, Match, Before, After}
use Rattle.js_replace.specs.declared.pieces.Shape.{Shape}
use Rattle.js_replace.specs.Substitution.{substituted}

abbrev pub piece_text : Piece → List ℕ → ℕ → List ℕ → List ℕ
piece_text (Plain unit) u at w = unit ∷ []
piece_text Match u at w = w
piece_text Before u at w = take at u
piece_text After u at w = drop (at + length w) u

-- how many pieces there are
abbrev pub pieces_of : Shape → ℕ
pieces_of s = s.plain + s.matched + s.before + s.after

-- how many units they expand to at a match of `size` units, which is at `at` in a string of `len` units
abbrev pub len_of : Shape → ℕ → ℕ → ℕ → ℕ
len_of s len at size = s.plain + s.matched * size + s.before * at + s.after * (len - at - size)

-- they are those of a template
abbrev pub Measures : Shape → List ℕ → Type 0
Measures s t = (u : List ℕ) (at : ℕ) (w : List ℕ) → at + length w ≤ length u
    → length (substituted t u at w) ≡ len_of s (length u) at (length w)
