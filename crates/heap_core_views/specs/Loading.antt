-- What a load or a compare-exchange of a header found, as a step of the machine has it at hand before it
-- changes the view.
use Rattle.std.specs.Prelude.{◌≡◌, ℕ, ◌+◌, ◌-◌, ◌*◌, ◌⊎◌, ◌<◌, ◌≤◌, ◌^◌, Bool, Some}
use Rattle.std.specs.FinMap.{insert}
use Rattle.js_header.specs.declared.form.Form.{Form}
use Rattle.js_header.specs.declared.form.Form.TheVariants.{Flat, Sliced, Thin}
use Rattle.heap_rule.specs.declared.view.View.{View}
use Rattle.heap_core_views.specs.declared.load.Load.{Load}
use Rattle.heap_core_views.specs.declared.load.Load.TheVariants.{SeenForm, SeenLength, SeenWord, Turned, Own}
use Rattle.js_units.specs.Lanes.{lane_count}
use Rattle.heap_rule.specs.Maps.{Has}
use Rattle.heap_rule.specs.Views.{HasLength}
use Rattle.heap_rule.specs.Loads.{met_ids, with_form, added_loads, loaded_length}
use Rattle.heap_rule.specs.Births.{freeze}

-- the view after it
abbrev pub loaded_by : View → Load → View
loaded_by v (SeenForm i f) = record (with_form v i (Some f)) { form_loads = added_loads v.form_loads 1 }
loaded_by v (SeenLength i n) = loaded_length v i n
loaded_by v (SeenWord c x) = record v { frozen = insert v.frozen c x }
loaded_by v (Turned i f start count) = record (freeze v start count) { forms = insert v.forms i f }
loaded_by v Own = v

-- the run of words that become frozen is counted by a machine's numbers
abbrev pub IsRunCounted : Load → Type 0
IsRunCounted (Turned i f start count) = start + count < 2 ^ 32
IsRunCounted _ = Unit {0}

-- the ids that a form names are met
abbrev pub met_by : View → Form → View
met_by v f = record v { met = met_ids v.met f }

-- the lanes of every Flat whose length is known can be counted by a machine's numbers, as in every state that
-- meets the rule
abbrev pub HasRoom : View → Type 0
HasRoom v = (i : ℕ) (wide : Bool) (start : ℕ) (fixed : Bool) (n : ℕ) → Has v.forms i (Flat wide start fixed)
    → Has v.lengths i n → 1 ≤ n → start + n < 2 ^ 32

-- a string whose Flat has the word c, by a length that the view has, which is more than all lanes before that
-- word
abbrev pub Spans : View → ℕ → ℕ → Form → Type 0
Spans v c i (Flat wide start fixed) =
    (start ≤ c) × ((m : ℕ) × HasLength v i m × ((c - start) * lane_count wide < m))
Spans v c i _ = ⊥

abbrev pub IsSpanned : View → ℕ → Type 0
IsSpanned v c = (i : ℕ) × (f : Form) × Has v.forms i f × Spans v c i f

-- a Sliced of the string i, or of one that forwards to it, that ends past n
abbrev pub EndsPast : View → ℕ → ℕ → ℕ → Form → Type 0
EndsPast v i n j (Sliced wide parent offset) =
    ((parent ≡ i) ⊎ Has v.forms parent (Thin i)) × ((len : ℕ) × Has v.lengths j len × (n < offset + len))
EndsPast v i n j _ = ⊥
