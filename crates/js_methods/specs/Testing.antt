-- Whether a string is well formed ("IsStringWellFormedUnicode").
use Rattle.std.specs.Prelude.{ℕ, Bool, true, not, ◌&&◌, ◌||◌, if◌then◌else◌, List, [], ◌∷◌}
use Rattle.js_units.specs.Text.{is_lead, is_trail}

abbrev pub is_surrogate : ℕ → Bool
is_surrogate u = is_lead u || is_trail u

-- whether each surrogate is one of a pair, a leading one followed directly by a trailing one
abbrev pub all_paired : List ℕ → Bool
all_paired [] = true
all_paired (u ∷ []) = not (is_surrogate u)
all_paired (u ∷ v ∷ us) =
    if is_lead u && is_trail v then all_paired us else not (is_surrogate u) && all_paired (v ∷ us)
