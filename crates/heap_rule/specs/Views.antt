-- What an agent knows of the heap, its view, as plain data.
use Rattle.std.specs.Prelude.{◌≡◌, ℕ, ◌+◌, ◌<◌, ◌≤◌, ◌⊎◌, Bool, ◌++◌, unwrap_or}
use Rattle.std.specs.FinMap.{get}
use Rattle.js_units.specs.Lanes.{words_over}
use Rattle.js_header.specs.declared.form.Form.{Form}
use Rattle.js_header.specs.declared.form.Form.TheVariants.{Flat, Sliced, Thin}
use Rattle.heap_rule.specs.declared.view.View.{View}
use Rattle.heap_rule.specs.Maps.{Has, HasKey}
use Rattle.heap_rule.specs.Forms.{IsCons}
use Rattle.heap_rule.specs.Paths.{Calls}

-- all calls of intern that the agent knows of
abbrev pub history : View → Calls
history v = v.seen ++ v.mine

-- the view may use the string i: it has its units, or has met its id
abbrev pub MayUse : View → ℕ → Type 0
MayUse v i = HasKey v.units i ⊎ HasKey v.met i

-- seen with another form than Cons
abbrev pub IsSeenSettled : View → ℕ → Type 0
IsSeenSettled v i = (f : Form) × Has v.forms i f × (IsCons f → ⊥)

-- The view leads from the string s to the string i, the units of s being those of i from `offset` on: s is i,
-- or forwards to it; or s is a part of i, or of a string that forwards to i.
abbrev pub LeadsTo : View → ℕ → ℕ → ℕ → Type 0
LeadsTo v s i offset = (((s ≡ i) ⊎ Has v.forms s (Thin i)) × (offset ≡ 0))
    ⊎ ((wide : Bool) × (parent : ℕ) × Has v.forms s (Sliced wide parent offset)
    × ((parent ≡ i) ⊎ Has v.forms parent (Thin i)))

-- a length by which the units of i are known to be there: its own, or where a Sliced of i ends, or one of a
-- string that forwards to i
abbrev pub HasLength : View → ℕ → ℕ → Type 0
HasLength v i n = Has v.lengths i n ⊎ ((j : ℕ) × (wide : Bool) × (parent : ℕ) × (offset : ℕ) × (len : ℕ)
    × Has v.forms j (Sliced wide parent offset) × Has v.lengths j len × (n ≡ offset + len)
    × ((parent ≡ i) ⊎ Has v.forms parent (Thin i)))

-- known to be frozen: the view has the content word as frozen, or it lies in the span of a Flat by a length
-- that the view has
abbrev pub IsFrozen : View → ℕ → Type 0
IsFrozen v c = HasKey v.frozen c ⊎ ((i : ℕ) × (wide : Bool) × (start : ℕ) × (fixed : Bool) × (n : ℕ)
    × Has v.forms i (Flat wide start fixed) × HasLength v i n × (start ≤ c) × (c < start + words_over wide n))

-- the content word as the view has it, own or frozen
abbrev pub shown_word : View → ℕ → ℕ
shown_word v c = unwrap_or (get v.own_words c) (unwrap_or (get v.frozen c) 0)
