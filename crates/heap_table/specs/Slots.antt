-- What the calls on slots report.
use Rattle.std.specs.Prelude.{◌≢◌, ℕ, Bool, true, false, List, Option, None}
use Rattle.heap_rule.specs.declared.view.View.{View}
use Rattle.heap_rule.specs.Maps.{Has, HasKey}
use Rattle.heap_rule.specs.Slots.{entry_in}
use Rattle.heap_table.specs.declared.stores.Step.{Step}
use Rattle.heap_table.specs.declared.stores.Step.TheVariants.{Won, Lost}

-- the entry of a load: what the view knows of the string that it saw in the slot, where the call is to enter
-- it in the history
abbrev pub entry_if : Bool → View → ℕ → Option (List ℕ)
entry_if true v k = entry_in v k
entry_if false v k = None

-- so it may be entered where the view saw a string in the slot, of which it knows the units
abbrev pub MayEnterIf : Bool → View → ℕ → Type 0
MayEnterIf true v k = (i : ℕ) × Has v.slots k i × HasKey v.units i
MayEnterIf false v k = Unit {0}

-- the word that a claim found: 0 where it was won, and never where it was lost
abbrev pub word_found : Step → ℕ
word_found Won = 0
word_found (Lost word) = word

-- a claim that was lost found a slot that isn't free
abbrev pub IsTaken : Step → Type 0
IsTaken Won = Unit {0}
IsTaken (Lost word) = word ≢ 0
