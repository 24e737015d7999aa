-- Loading a slot of the string table and claiming one. The word of a slot is 0 where it is free, else an id
-- plus 1.
use Rattle.std.specs.Prelude.{◌≢◌, ℕ, zero, suc, ◌+◌, ◌/◌, ◌<◌, ◌⊎◌, Bool, true, List, [], ◌∷◌, ◌++◌}
use Rattle.std.specs.Prelude.{slice_index, length, unwrap_or, Option, Some, None}
use Rattle.std.specs.FinMap.{get, insert}
use Rattle.js_units.specs.Lanes.{lane_count}
use Rattle.js_header.specs.declared.form.Form.TheVariants.{Flat}
use Rattle.heap_rule.specs.declared.view.View.{View}
use Rattle.heap_rule.specs.Contents.{lane_in}
use Rattle.heap_rule.specs.Maps.{Has}
use Rattle.heap_rule.specs.Paths.{Calls, rank}
use Rattle.heap_rule.specs.Loads.{added_loads}

-- the word of a slot with an id, or of a free one
abbrev pub slot_word : Option ℕ → ℕ
slot_word None = 0
slot_word (Some i) = i + 1

-- the id of a used slot is seen there and met
abbrev pub with_slot : View → ℕ → ℕ → View
with_slot v k zero = v
with_slot v k (suc i) = record v { slots = insert v.slots k i; met = insert v.met i tt }

-- loading a slot; with an entry, which is what the view knows of the string there, the call enters the
-- history
abbrev pub MayEnter : View → ℕ → Option (List ℕ) → Type 0
MayEnter v k None = Unit {0}
MayEnter v k (Some us) = (i : ℕ) × Has v.slots k i × Has v.units i us

-- what the view knows of the string that it saw in the slot
abbrev pub units_seen : View → Option ℕ → Option (List ℕ)
units_seen v None = None
units_seen v (Some i) = get v.units i

-- what the view knows of the string that it saw in slot k: its units
abbrev pub entry_in : View → ℕ → Option (List ℕ)
entry_in v k = units_seen v (get v.slots k)

-- the agent's own calls after the load of a slot; with an entry there is one more, which had these units and
-- gave the id in the slot
abbrev pub calls_entered : View → ℕ → Option (List ℕ) → Calls
calls_entered v k None = v.mine
calls_entered v k (Some us) = v.mine ++ (us, unwrap_or (get v.slots k) 0) ∷ []

-- slot k was loaded with the word x: its id is seen there, the load counts, and an entry is in the history
abbrev pub loaded_slot : View → ℕ → Option (List ℕ) → ℕ → View
loaded_slot v k entry x = let w : View = with_slot v k x in record w {
  slot_loads = insert v.slot_loads k (added_loads (unwrap_or (get v.slot_loads k) 0) 1);
  mine = calls_entered v k entry;
}

-- the string i is known not to have the units us: by its length, by its units, or by one lane of a frozen
-- word
abbrev pub Differs : View → List ℕ → ℕ → Type 0
Differs v us i = ((n : ℕ) × Has v.lengths i n × (n ≢ length us))
    ⊎ (((ws : List ℕ) × Has v.units i ws × (ws ≢ us))
    ⊎ ((wide : Bool) × (start : ℕ) × (fixed : Bool) × (o : ℕ) × (x : ℕ)
    × Has v.forms i (Flat wide start fixed) × (o < length us)
    × Has v.frozen (start + o / lane_count wide) x × (lane_in (λ _. x) wide start o ≢ slice_index us o)))

-- the slot is known to be used by such a string
abbrev pub IsShutAt : View → List ℕ → ℕ → Type 0
IsShutAt v us k = (t : ℕ) × Has v.slots k t × Differs v us t

-- claiming a slot for a fixed Flat: each slot before it on the path of its units is known to be used by a
-- string that differs
abbrev pub MayTakeSlot : View → ℕ → ℕ → Type 0
MayTakeSlot v k i = (k < v.sizes.slots)
    × ((wide : Bool) × (start : ℕ) × Has v.forms i (Flat wide start true))
    × ((us : List ℕ) × Has v.units i us
    × ((j : ℕ) → j < v.sizes.slots → rank us v.sizes.slots j < rank us v.sizes.slots k
    → (t : ℕ) × Has v.slots j t × Differs v us t))

-- the compare-exchange of the slot from 0
abbrev pub took_slot : View → ℕ → ℕ → ℕ → View
took_slot v k i zero =
    record v { slots = insert v.slots k i; mine = v.mine ++ (unwrap_or (get v.units i) [], i) ∷ [] }
took_slot v k i (suc j) = with_slot v k (suc j)
