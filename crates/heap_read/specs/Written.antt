-- Content words that hold units.
use Rattle.std.specs.Prelude.{◌≡◌, ℕ, ◌+◌, ◌-◌, ◌/◌, ◌%◌, ◌<◌, ◌≤◌, ◌^◌, Bool, List, length, slice_index}
use Rattle.js_units.specs.Lanes.{IsWordOf, lane_count, lane_of, words_over}
use Rattle.heap_rule.specs.declared.view.View.{View}
use Rattle.heap_rule.specs.Maps.{Has}
use Rattle.heap_read.specs.declared.source.HeldWord.{HeldWord}
use Rattle.heap_read.specs.declared.string.Window.{Window}

-- the first `done` of the words from `start` on are own and hold the units
pub record AreWords (v : View) (wide : Bool) (start : ℕ) (us : List ℕ) (done : ℕ) : Type 0 where
  pub each : (q : ℕ) → q < done → (x : ℕ) × Has v.own_words (start + q) x × IsWordOf wide us q x

-- all of them, from `start` on; an empty list has no word and starts at 0
pub record IsWritten (v : View) (wide : Bool) (start : ℕ) (us : List ℕ) : Type 0 where
  pub small : start < 2 ^ 29
  pub words : AreWords v wide start us (words_over wide (length us))
  pub empty : length us ≡ 0 → start ≡ 0

-- the word that is held shows units of a list: those that it says, in its lanes
pub record HoldsUnits (us : List ℕ) (h : HeldWord) : Type 0 where
  pub lanes : h.lane + h.count ≤ lane_count h.wide
  pub within : h.from + h.count ≤ length us
  pub each : (k : ℕ) → k < h.count → lane_of h.wide h.word (h.lane + k) ≡ slice_index us (h.from + k)

-- unit i of the list, which the held word has
abbrev pub held_unit : HeldWord → ℕ → ℕ
held_unit h i = lane_of h.wide h.word (h.lane + (i - h.from))

-- the word that is held has `count` units from number i on
pub record HasAt (h : HeldWord) (i count : ℕ) : Type 0 where
  pub lanes : h.lane + h.count ≤ lane_count h.wide
  pub low : h.from ≤ i
  pub high : i + count ≤ h.from + h.count

-- The word shows units of a list, which are those of the window: from number i on, each in the lane behind
-- that of the one before, up to the last lane.
pub record ShowsOn (w : Window) (us : List ℕ) (i word : ℕ) : Type 0 where
  pub each : (k : ℕ) → (w.offset + i) % lane_count w.wide + k < lane_count w.wide → i + k < w.len
      → lane_of w.wide word ((w.offset + i) % lane_count w.wide + k) ≡ slice_index us (i + k)

-- The first `count` of these words are those of a list from word number `at` on, where unit i is `lane + i`
-- lanes behind the lowest lane of word number 0.
pub record ShowsFrom (wide : Bool) (lane : ℕ) (us : List ℕ) (at count : ℕ) (words : List ℕ) : Type 0 where
  pub each : (i : ℕ) → i < length us → at ≤ (lane + i) / lane_count wide
      → (lane + i) / lane_count wide < at + count
      → lane_of wide (slice_index words ((lane + i) / lane_count wide - at)) ((lane + i) % lane_count wide)
      ≡ slice_index us i
