-- The strings of one unit that a session keeps. No public contract cites these.
use Rattle.std.specs.Prelude.{ℕ, ◌<◌, List, [], ◌∷◌, slice_index, IsTrue}
use Rattle.std.specs.FinMap.{get}
use Rattle.heap_rule.specs.declared.view.View.{View}
use Rattle.heap_rule.specs.Maps.{Has}
use Rattle.heap_session.specs.Settled.{is_settled}

-- the number is that of a settled string which has this unit alone
abbrev pub IsSingle : View → ℕ → ℕ → Type 0
IsSingle v unit id = Has v.units id (unit ∷ []) × IsTrue (is_settled (get v.forms id))

-- at the place of each unit is such a number, or 0
abbrev pub AreSingles : View → List ℕ → Type 0
AreSingles v ids = (unit : ℕ) → 0 < slice_index ids unit → IsSingle v unit (slice_index ids unit)
