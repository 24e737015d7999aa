-- What the tests of slots ask of a view, as in every state that meets the rule, and what they test.
use Rattle.std.specs.Prelude.{ℕ, ◌<◌, ◌≤◌, Bool, true, List, length, Option, unwrap_or}
use Rattle.std.specs.FinMap.{get, insert}
use Rattle.js_header.specs.Form.{IsInRange}
use Rattle.js_header.specs.declared.form.Form.{Form}
use Rattle.js_header.specs.declared.form.Form.TheVariants.{Flat}
use Rattle.heap_rule.specs.declared.view.View.{View}
use Rattle.heap_rule.specs.Layout.{MAX}
use Rattle.heap_rule.specs.Maps.{Has}
use Rattle.heap_rule.specs.Paths.{rank}
use Rattle.heap_rule.specs.Loads.{added_loads}
use Rattle.heap_rule.specs.Learning.{MayLearn}
use Rattle.heap_rule.specs.Slots.{IsShutAt, MayEnter, MayTakeSlot, calls_entered, loaded_slot, took_slot}

-- each form of a string in a slot is spelt by a word, and no string is longer than the greatest length
abbrev pub HasForms : View → Type 0
HasForms v = (k i : ℕ) (f : Form) → Has v.slots k i → Has v.forms i f → IsInRange f

abbrev pub HasShorts : View → Type 0
HasShorts v = (i : ℕ) (us : List ℕ) → Has v.units i us → length us ≤ MAX

-- seen as a fixed Flat
abbrev pub IsHeader : View → ℕ → Type 0
IsHeader v i = (wide : Bool) × (start : ℕ) × Has v.forms i (Flat wide start true)

-- each slot before slot k on the path of us has a string that differs
abbrev pub IsBehind : View → List ℕ → ℕ → Type 0
IsBehind v us k = (j : ℕ) → j < v.sizes.slots
    → rank us v.sizes.slots j < rank us v.sizes.slots k → IsShutAt v us j

-- two parts of a load of slot k: the call enters the history, and the load is counted
abbrev pub with_entry : View → ℕ → Option (List ℕ) → View
with_entry v k entry = record v { mine = calls_entered v k entry }

abbrev pub with_load : View → ℕ → View
with_load v k =
    record v { slot_loads = insert v.slot_loads k (added_loads (unwrap_or (get v.slot_loads k) 0) 1) }

-- loading a slot, and claiming one, each with what is learned; x is the word that is there
abbrev pub MayLoad : View → ℕ → Option (List ℕ) → List ℕ → ℕ → Type 0
MayLoad v k entry names x =
    (k < v.sizes.slots) × MayEnter v k entry × MayLearn (loaded_slot v k entry x) names

abbrev pub MayTake : View → ℕ → ℕ → List ℕ → ℕ → Type 0
MayTake v k i names x = MayTakeSlot v k i × MayLearn (took_slot v k i x) names
