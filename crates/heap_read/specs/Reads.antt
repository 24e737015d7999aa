-- What a call leaves of what an agent knows and has.
use Rattle.std.specs.Prelude.{◌≡◌, ℕ, ◌+◌, ◌<◌, ◌≤◌, ◌⊎◌}
use Rattle.js_header.specs.declared.form.Form.{Form}
use Rattle.heap_rule.specs.declared.view.View.{View}
use Rattle.heap_rule.specs.Maps.{Has, HasKey}
use Rattle.heap_table.specs.Known.{KeepsKnown}

-- a call that only loads: what is known stays known, what the agent owns, used and read of the counters
-- stays, and so do its slots and history
pub record OnlyLoads (v w : View) : Type 0 where
  pub known : KeepsKnown v w
  pub sizes : w.sizes ≡ v.sizes
  pub agents : w.agents ≡ v.agents
  pub live : w.live ≡ v.live
  pub share : w.share ≡ v.share
  pub used : w.used ≡ v.used
  pub low : w.low ≡ v.low
  pub own_ids : w.own_ids ≡ v.own_ids
  pub own_words : w.own_words ≡ v.own_words
  pub slots : w.slots ≡ v.slots
  pub seen : w.seen ≡ v.seen
  pub mine : w.mine ≡ v.mine
  pub slot_loads : w.slot_loads ≡ v.slot_loads

-- a call after which each form that was seen is still the one that the view has
abbrev pub HoldsForms : View → View → Type 0
HoldsForms v w = (i : ℕ) (f : Form) → Has v.forms i f → Has w.forms i f

-- any call: what is known stays known, counters and uses never fall, and slots,
-- how often each was loaded, and history stay
pub record Continues (v w : View) : Type 0 where
  pub known : KeepsKnown v w
  pub sizes : w.sizes ≡ v.sizes
  pub agents : w.agents ≡ v.agents
  pub live : w.live ≡ v.live
  pub share : w.share ≡ v.share
  pub ids_used : v.used.ids ≤ w.used.ids
  pub words_used : v.used.words ≤ w.used.words
  pub ids_low : v.low.ids ≤ w.low.ids
  pub words_low : v.low.words ≤ w.low.words
  pub slots : w.slots ≡ v.slots
  pub seen : w.seen ≡ v.seen
  pub mine : w.mine ≡ v.mine
  pub slot_loads : w.slot_loads ≡ v.slot_loads

-- a call that loads no form: the forms that the view has stay, and the count of their loads
abbrev pub KeepsForms : View → View → Type 0
KeepsForms v w = (w.forms ≡ v.forms) × (w.form_loads ≡ v.form_loads)

-- A call that loads, and stores to own content words: what is known stays known, what the agent owns and used
-- and what it read of the counters stays, and so do its slots and history.
pub record WritesOwnWords (v w : View) : Type 0 where
  pub known : KeepsKnown v w
  pub sizes : w.sizes ≡ v.sizes
  pub agents : w.agents ≡ v.agents
  pub live : w.live ≡ v.live
  pub share : w.share ≡ v.share
  pub used : w.used ≡ v.used
  pub low : w.low ≡ v.low
  pub own_ids : w.own_ids ≡ v.own_ids
  pub own_words : (c : ℕ) → HasKey v.own_words c → HasKey w.own_words c
  pub slots : w.slots ≡ v.slots
  pub seen : w.seen ≡ v.seen
  pub mine : w.mine ≡ v.mine
  pub slot_loads : w.slot_loads ≡ v.slot_loads

-- the own content words before `start` are still what they were
abbrev pub KeepsBelow : ℕ → View → View → Type 0
KeepsBelow start v w = (c x : ℕ) → c < start → Has v.own_words c x → Has w.own_words c x

-- the own content words beside the n from `start` on are still what they were
abbrev pub KeepsBeside : ℕ → ℕ → View → View → Type 0
KeepsBeside start n v w = (c x : ℕ) → (c < start) ⊎ (start + n ≤ c) → Has v.own_words c x
    → Has w.own_words c x

-- the own content words from `end` on are still what they were
abbrev pub KeepsFrom : ℕ → View → View → Type 0
KeepsFrom end v w = (c x : ℕ) → end ≤ c → Has v.own_words c x → Has w.own_words c x
