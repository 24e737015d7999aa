-- Helpers: no public contract reaches these definitions.
-- The well-formed list while it is made unit by unit.
use Rattle.std.specs.Prelude.{◌≡◌, ℕ, true, List, ◌∷◌, Option, Some, None}
use Rattle.js_units.specs.Text.{is_lead, well}

-- a leading surrogate that may still get its trailing one, if there is one
abbrev pub IsLeadOrNone : Option ℕ → Type 0
IsLeadOrNone None = Unit {0}
IsLeadOrNone (Some v) = is_lead v ≡ true

-- what is left to add where that one precedes the rest
abbrev pub well_after : Option ℕ → List ℕ → List ℕ
well_after None us = well us
well_after (Some v) us = well (v ∷ us)
