-- What a window shows, by what an agent knows.
use Rattle.std.specs.Prelude.{◌≡◌, ℕ, ◌+◌, ◌/◌, ◌<◌, ◌≤◌, ◌⊎◌, Bool, List, length}
use Rattle.js_units.specs.Lanes.{lane_count, words_over}
use Rattle.js_header.specs.declared.form.Form.TheVariants.{Flat, Sliced, Thin}
use Rattle.heap_rule.specs.declared.view.View.{View}
use Rattle.heap_rule.specs.Births.{part}
use Rattle.heap_rule.specs.Maps.{Has}
use Rattle.heap_rule.specs.Views.{LeadsTo, HasLength, IsFrozen}
use Rattle.heap_read.specs.declared.string.Window.{Window}

-- each content word that has a unit of the window is known to be frozen
abbrev pub IsFrozenWindow : View → Window → Type 0
IsFrozenWindow v w = (c : ℕ) → w.start + w.offset / lane_count w.wide ≤ c
    → c < w.start + words_over w.wide (w.offset + w.len) → IsFrozen v c

-- The string i is p, or p forwards to it.
abbrev pub StandsFor : View → ℕ → ℕ → Type 0
StandsFor v p i = (p ≡ i) ⊎ Has v.forms p (Thin i)

-- The view leads from the string s to a Flat over the words from `start` on, where the units of s begin
-- behind `before` others. By the length of the string `by` they are known to be there: of the Flat's own
-- string, or of s where that is a Sliced.
pub record IsLed (v : View) (s by : ℕ) (wide : Bool) (start before : ℕ) : Type 0 where
  pub id : ℕ
  pub fixed : Bool
  pub form : Has v.forms id (Flat wide start fixed)
  pub way : (StandsFor v s id × (by ≡ id) × (before ≡ 0))
      ⊎ ((narrow : Bool) × (parent : ℕ) × Has v.forms s (Sliced narrow parent before) × StandsFor v parent id
      × (by ≡ s))

-- The window shows the units us, which are those of a string from `from` on. Its words are those of a Flat to
-- which the view leads from that string, where they begin behind `before` units.
pub record IsWindow (v : View) (w : Window) (us : List ℕ) : Type 0 where
  pub of : ℕ
  pub whole : List ℕ
  pub known : Has v.units of whole
  pub id : ℕ
  pub before : ℕ
  pub leads : LeadsTo v of id before
  pub fixed : Bool
  pub form : Has v.forms id (Flat w.wide w.start fixed)
  pub length_known : HasLength v id (before + length whole)
  pub from : ℕ
  pub place : w.offset ≡ before + from
  pub within : from + w.len ≤ length whole
  pub shows : us ≡ part from w.len whole

-- the window shows all units of the string s, by what w knows; v knew which units these are
abbrev pub ShowsAll : View → View → ℕ → Window → Type 0
ShowsAll v w s window = (us : List ℕ) → Has v.units s us → IsWindow w window us × (window.len ≡ length us)

-- The window has all units of the string s: its words are those of the Flat to which the view leads from s,
-- and its length is known, by that of s or of what s forwards to.
pub record IsWindowOf (v : View) (s : ℕ) (w : Window) : Type 0 where
  pub by : ℕ
  pub led : IsLed v s by w.wide w.start w.offset
  pub long : Has v.lengths by w.len
