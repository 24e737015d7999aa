-- Which units of a string its content words show.
use Rattle.std.specs.Prelude.{◌≡◌, ℕ, ◌+◌, ◌-◌, ◌%◌, ◌<◌, ◌≤◌, List, length, false, min, slice_index}
use Rattle.js_units.specs.Lanes.{lane_count, words_over}
use Rattle.heap_rule.specs.declared.view.View.{View}
use Rattle.heap_read.specs.declared.string.Window.{Window}
use Rattle.heap_read.specs.Windows.{IsWindow}
use Rattle.heap_read.specs.Written.{ShowsFrom}
use Rattle.agent_reads.specs.declared.words.Shown.{Shown}

-- Of the words of these units, from word number `at` on, as many as there are and as there is room for are in
-- front of the list: unit i is `lane + i` lanes behind the lowest lane of word number 0. The rest of the list
-- stayed. An empty list has no words, and narrow ones.
pub record AreShown (us : List ℕ) (at : ℕ) (old new : List ℕ) (r : Shown) : Type 0 where
  pub len : r.len ≡ length us
  pub lane : r.lane < lane_count r.wide
  pub count : r.count ≡ min (length old) (words_over r.wide (r.lane + length us) - at)
  pub empty : length us ≡ 0 → (r.wide ≡ false) × (r.lane ≡ 0)
  pub words : ShowsFrom r.wide r.lane us at r.count new
  pub rest : (k : ℕ) → r.count ≤ k → slice_index new k ≡ slice_index old k

-- these words are those of a Flat, where they have any
pub record AreThere (v : View) (us : List ℕ) (r : Shown) : Type 0 where
  pub each : 0 < length us → (w : Window) × IsWindow v w us × (r.wide ≡ w.wide)
      × (r.lane ≡ w.offset % lane_count w.wide)
