-- The short strings that a session made lately. No public contract cites these.
use Rattle.std.specs.Prelude.{ℕ, ◌<◌, List, slice_index, IsTrue}
use Rattle.std.specs.FinMap.{get}
use Rattle.heap_rule.specs.declared.view.View.{View}
use Rattle.heap_rule.specs.Maps.{HasKey}
use Rattle.heap_session.specs.Settled.{is_settled}

-- the number is that of a known string that is settled
abbrev pub IsRecent : View → ℕ → Type 0
IsRecent v id = HasKey v.units id × IsTrue (is_settled (get v.forms id))

-- at each place is such a number, or 0
abbrev pub AreRecent : View → List ℕ → Type 0
AreRecent v ids = (k : ℕ) → 0 < slice_index ids k → IsRecent v (slice_index ids k)
