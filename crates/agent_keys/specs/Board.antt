-- Strings of the table by their slots: what adopting one, and seeking the slot of one, leave and answer.
use Rattle.std.specs.Prelude.{◌≡◌, ℕ, ◌<◌, ◌≤◌, ◌+◌, List, Option, Some, None, IfSome}
use Rattle.heap_rule.specs.Maps.{Has}
use Rattle.heap_table.specs.Known.{KeepsKnown}
use Rattle.heap_intern.specs.Adopted.{AdoptsSlot, LoadsHere, LoadsNoneBehind, adopting_loads}
use Rattle.heap_intern.specs.Goes.{LoadsAlone}
use Rattle.heap_intern.specs.SlotLoads.{loads_at}
use Rattle.heap_agents.specs.declared.held.Held.{Held}
use Rattle.heap_agents.specs.Held.{IsHeld, IsSame, KeepsMarks, MarksNothing, held_size, view_by}
use Rattle.heap_agents.specs.Interned.{HasEntered, KeepsCalls}
use Rattle.agent_keys.specs.Keys.{MarksFound}

-- Slot k was loaded, with r as the answer: its string, which gets both marks, or none, and then nothing is
-- marked. What the agent had seen there is answered again.
pub record AdoptedFrom (x y : Held) (k : ℕ) (r : Option ℕ) : Type 0 where
  pub held : IsHeld y
  pub same : IsSame x y
  pub marks : KeepsMarks x y
  pub marked : MarksFound x y r
  pub known : KeepsKnown (view_by x) (view_by y)
  pub calls : KeepsCalls (view_by x) (view_by y)
  pub entered : IfSome r (λ i. (us : List ℕ) × HasEntered (view_by y) us i)
  pub adopts : AdoptsSlot (view_by x) (view_by y) k r
  pub again : (i : ℕ) → Has (view_by x).slots k i → r ≡ Some i
  pub loads : LoadsHere (view_by x) (view_by y) k (adopting_loads r)

-- The string i is in slot k. Nothing was used or marked, each slot loaded once at most, and none behind
-- slot k on the path of the string's units.
pub record ToldSlot (x y : Held) (i k : ℕ) : Type 0 where
  pub held : IsHeld y
  pub same : IsSame x y
  pub marks : KeepsMarks x y
  pub marked : MarksNothing x y
  pub looks : LoadsAlone (view_by x) (view_by y)
  pub inside : k < (held_size x).slots
  pub stands : Has (view_by y).slots k i
  pub once : (j : ℕ) → loads_at (view_by y) j ≤ loads_at (view_by x) j + 1
  pub few : (us : List ℕ) → Has (view_by x).units i us → LoadsNoneBehind (view_by x) (view_by y) us k

-- the same of what lies behind a handle, where something does
abbrev pub AdoptsFrom : Option Held → Option Held → ℕ → Option ℕ → Type 0
AdoptsFrom None _ k r = ⊥
AdoptsFrom (Some x) None k r = ⊥
AdoptsFrom (Some x) (Some y) k r = AdoptedFrom x y k r

abbrev pub TellsSlot : Option Held → Option Held → ℕ → ℕ → Type 0
TellsSlot None _ i k = ⊥
TellsSlot (Some x) None i k = ⊥
TellsSlot (Some x) (Some y) i k = ToldSlot x y i k
