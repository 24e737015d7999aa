-- What is known of the words of a window once they were loaded.
use Rattle.std.specs.Prelude.{◌≡◌, ◌≢◌, ℕ, ◌+◌, ◌/◌, ◌<◌, ◌≤◌, ◌⊎◌, Bool, true, List, length, slice_index}
use Rattle.js_units.specs.Lanes.{lane_count, lane_of, words_over}
use Rattle.js_header.specs.declared.form.Form.TheVariants.{Flat, Thin}
use Rattle.heap_rule.specs.declared.view.View.{View}
use Rattle.heap_rule.specs.Contents.{lane_in}
use Rattle.heap_rule.specs.Maps.{Has, HasKey}
use Rattle.heap_read.specs.declared.source.HeldWord.{HeldWord}
use Rattle.heap_read.specs.declared.string.Window.{Window}

-- a string that is a fixed Flat: it is in a slot, or another forwards to it
abbrev pub IsFixedBy : View → ℕ → Type 0
IsFixedBy v i = ((k : ℕ) × Has v.slots k i) ⊎ ((j : ℕ) × Has v.forms j (Thin i))

-- the window is that of a fixed Flat, and has all its units
pub record IsFixedWindow (v : View) (i : ℕ) (w : Window) : Type 0 where
  pub form : Has v.forms i (Flat w.wide w.start true)
  pub long : Has v.lengths i w.len
  pub whole : w.offset ≡ 0

-- a lane of a word that the view has as frozen
pub record HasLane (v : View) (wide : Bool) (start o unit : ℕ) : Type 0 where
  pub word : ℕ
  pub frozen : Has v.frozen (start + o / lane_count wide) word
  pub lane : unit ≡ lane_in (λ _. word) wide start o

-- the word that is held shows units of the window, from words that the view has as frozen
pub record IsWordHeld (v : View) (w : Window) (h : HeldWord) : Type 0 where
  pub lanes : h.lane + h.count ≤ lane_count h.wide
  pub within : h.from + h.count ≤ w.len
  pub each : (k : ℕ) → k < h.count
      → HasLane v w.wide w.start (w.offset + (h.from + k)) (lane_of h.wide h.word (h.lane + k))

-- It shows all units of the window that its word has: it begins with the window or with the word,
-- and ends with one of the two.
pub record HoldsAll (w : Window) (h : HeldWord) : Type 0 where
  pub front : 0 < h.from → h.lane ≡ 0
  pub back : h.from + h.count < w.len → h.lane + h.count ≡ lane_count h.wide

-- the view has each word with a unit of the window as frozen
pub record AreFrozen (v : View) (w : Window) : Type 0 where
  pub each : (k : ℕ) → k < w.len → HasKey v.frozen (w.start + (w.offset + k) / lane_count w.wide)

-- the window's lanes are those units, or one of them is another
pub record HasUnits (v : View) (w : Window) (us : List ℕ) : Type 0 where
  pub each : (k : ℕ) → k < length us → HasLane v w.wide w.start (w.offset + k) (slice_index us k)

pub record HasOther (v : View) (w : Window) (us : List ℕ) : Type 0 where
  pub at : ℕ
  pub inside : at < length us
  pub unit : ℕ
  pub lane : HasLane v w.wide w.start (w.offset + at) unit
  pub other : unit ≢ slice_index us at

-- The units of each Flat are known once all its words are frozen, as they are after a load.
pub record IsLearned (v : View) : Type 0 where
  pub each : (i : ℕ) (wide : Bool) (start : ℕ) (fixed : Bool) (n : ℕ) → Has v.forms i (Flat wide start fixed)
      → Has v.lengths i n
      → ((q : ℕ) → q < words_over wide n → HasKey v.frozen (start + q)) → HasKey v.units i
