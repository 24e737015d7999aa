-- What every play keeps: a string's units from its birth on, and that all agents agree on which string is
-- which.
use Rattle.std.specs.Prelude.{◌≡◌, ℕ, ◌+◌, ◌<◌, ◌≤◌, List, take}
use Rattle.js_header.specs.declared.form.Form.{Form}
use Rattle.heap_rule.specs.Layout.{IsBorn}
use Rattle.heap_rule.specs.Sound.{AreLegal, At}
use Rattle.heap_core.specs.declared.event.Event.TheVariants as event
use Rattle.heap_core.specs.Core.{Core}
use Rattle.heap_core.specs.Events.{KeepsUnits}
use Rattle.heap_schedule.specs.Lines.{Turn, plain}
use Rattle.heap_schedule.specs.Play.{EndsAfter, all_played}

-- the machine after the first k lines
abbrev pub after_lines : List Turn → Core → ℕ → Core
after_lines ts s k = all_played (take k ts) s

-- the line at this place is the birth of the string i
abbrev pub BearsAt : List Turn → ℕ → ℕ → Type 0
BearsAt ts k i = (j : ℕ) × (f : Form) × At ts k (plain (event.Birth j i f))

abbrev pub IsBornIn : Core → ℕ → Type 0
IsBornIn s i = IsBorn s.size s.words i

-- of the first n lines
pub record AreLinesKept (ts : List Turn) (s : Core) (n : ℕ) : Type 0 where
  -- right after its birth a string is born,
  pub born : (k i : ℕ) → k < n → BearsAt ts k i → IsBornIn (after_lines ts s (k + 1)) i
  -- and from then on it has the units that it has at the end, whatever is played;
  pub units : (k : ℕ) → k ≤ n → KeepsUnits (after_lines ts s k) (after_lines ts s n)
  -- the histories of all live views together give each list of units one id and each id one list
  pub legal : (k : ℕ) → k ≤ n → AreLegal (after_lines ts s k).views

-- the first n lines were played, then it was over, and this held throughout
pub record WasPlayed (ts : List Turn) (s : Core) (n : ℕ) : Type 0 where
  pub ends : EndsAfter ts s n
  pub kept : AreLinesKept ts s n
