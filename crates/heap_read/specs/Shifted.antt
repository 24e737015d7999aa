-- Helpers: no public contract reaches these definitions.
-- Words whose lowest lanes hold units, words that a view has, and the word that begins with a unit.
use Rattle.std.specs.Prelude.{◌≡◌, ℕ, ◌+◌, ◌/◌, ◌%◌, ◌<◌, ◌^◌, ◌⊎◌, Bool, true, false}
use Rattle.js_units.specs.Lanes.{lane_base, lane_count, lane_of}
use Rattle.heap_rule.specs.declared.view.View.{View}
use Rattle.heap_rule.specs.Maps.{HasKey}
use Rattle.heap_read.specs.declared.string.Window.{Window}

-- the bits of a lane
abbrev pub lane_bits : Bool → ℕ
lane_bits true = 16
lane_bits false = 8

-- the lowest `count` lanes hold the units, and the lanes above them are 0
pub record HoldsLanes (wide : Bool) (word count : ℕ) (unit : ℕ → ℕ) : Type 0 where
  pub small : word < lane_base wide ^ count
  pub each : (k : ℕ) → k < count → lane_of wide word k ≡ unit k

-- the content word is own, or was loaded
abbrev pub HasWord : View → ℕ → Type 0
HasWord v c = HasKey v.own_words c ⊎ HasKey v.frozen c

-- unit i of the window is in the lowest lane of content word `at`
pub record BeginsWord (w : Window) (i at : ℕ) : Type 0 where
  pub lowest : (w.offset + i) % lane_count w.wide ≡ 0
  pub place : at ≡ w.start + (w.offset + i) / lane_count w.wide
