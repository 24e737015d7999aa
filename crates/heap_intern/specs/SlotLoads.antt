-- How often slots are loaded. A view counts the loads of each slot.
use Rattle.std.specs.Prelude.{◌≡◌, ℕ, zero, suc, ◌+◌, ◌<◌, ◌≤◌, List, unwrap_or, Option, Some, None, Result}
use Rattle.std.specs.Prelude.{Ok, Err}
use Rattle.std.specs.FinMap.{get}
use Rattle.heap_rule.specs.declared.view.View.{View}
use Rattle.heap_rule.specs.Loads.{added_loads}
use Rattle.heap_rule.specs.Maps.{Has}
use Rattle.heap_rule.specs.Paths.{path_slot}
use Rattle.heap_intern.specs.declared.table.faults.TableFull.{TableFull}

-- how often the view has loaded slot k
abbrev pub loads_at : View → ℕ → ℕ
loads_at v k = unwrap_or (get v.slot_loads k) 0

-- a count after n loads more, one by one; it stops at the end of its type
abbrev pub counted_on : ℕ → ℕ → ℕ
counted_on a zero = a
counted_on a (suc n) = added_loads (counted_on a n) 1

-- the sum of f k over all k below n
abbrev pub sum_below : (ℕ → ℕ) → ℕ → ℕ
sum_below f zero = 0
sum_below f (suc n) = sum_below f n + f n

abbrev pub answered : Result ℕ TableFull → Option ℕ
answered (Ok i) = Some i
answered (Err f) = None

-- Between two views each slot was loaded so many times: at most twice, and twice only the one with the
-- answer, if there is one. A count went on by all of these loads.
pub record LoadsSlots (v w : View) (answer : Option ℕ) (before after : ℕ) : Type 0 where
  pub times : ℕ → ℕ
  pub each : (k : ℕ) → loads_at w k ≡ counted_on (loads_at v k) (times k)
  pub twice : (k : ℕ) → times k ≤ 2
  pub entered : (k : ℕ) → 1 < times k → (i : ℕ) × (answer ≡ Some i) × Has w.slots k i
  pub inside : (k : ℕ) → 0 < times k → k < v.sizes.slots
  pub sum : after ≡ before + sum_below times v.sizes.slots

-- the view has seen a string with these units in the first slot of their path
abbrev pub IsInFirstSlot : View → List ℕ → Type 0
IsInFirstSlot v us = (i : ℕ) × Has v.slots (path_slot us v.sizes.slots 0) i × Has v.units i us
