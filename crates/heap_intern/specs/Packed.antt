-- Helpers: no public contract reaches these definitions.
-- The lowest lanes of a word beside units of a list.
use Rattle.std.specs.Prelude.{◌≡◌, ◌≢◌, ℕ, ◌+◌, ◌<◌, Bool, List, slice_index}
use Rattle.js_units.specs.Lanes.{lane_of}

-- the lowest `count` lanes are the units from place `at` on
abbrev pub AreLanes : Bool → ℕ → List ℕ → ℕ → ℕ → Type 0
AreLanes wide word us at count = (k : ℕ) → k < count → lane_of wide word k ≡ slice_index us (at + k)

-- one of them is another
abbrev pub HasOtherLane : Bool → ℕ → List ℕ → ℕ → ℕ → Type 0
HasOtherLane wide word us at count =
    (k : ℕ) × (k < count) × (lane_of wide word k ≢ slice_index us (at + k))
