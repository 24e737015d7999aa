-- What the strings in the slots hash to, as an agent notes it: a slot whose string is noted with another hash
-- than that of the units that are looked for has other units, which no load has to show.
use Rattle.std.specs.Prelude.{◌≡◌, ◌≢◌, ℕ, ◌<◌, List, Option, Some, length, max, slice_index}
use Rattle.js_units.specs.Lanes.{hash_of}
use Rattle.heap_rule.specs.declared.view.View.{View}
use Rattle.heap_rule.specs.Maps.{Has, HasKey}
use Rattle.heap_intern.specs.SlotLoads.{loads_at}

-- the hash of the units as it is noted: 1 in place of 0, which is for a slot of which nothing is noted
abbrev pub noted_hash : List ℕ → ℕ
noted_hash us = max (hash_of us) 1

-- the view knows a string in slot k, and the units of that string, whose hash is noted as h
abbrev pub IsHashed : View → ℕ → ℕ → Type 0
IsHashed v k h = HasKey v.slots k × ((t : ℕ) → Has v.slots k t
    → HasKey v.units t × ((us : List ℕ) → Has v.units t us → h ≡ noted_hash us))

-- at each place is 0, or the noted hash of the string in the slot of that number
abbrev pub AreHashes : View → List ℕ → Type 0
AreHashes v hashes = (k : ℕ) → 0 < slice_index hashes k → IsHashed v k (slice_index hashes k)

-- slot k is noted with another hash than the given one
abbrev pub IsNotedApart : List ℕ → ℕ → ℕ → Type 0
IsNotedApart hashes k h = 0 < slice_index hashes k × (slice_index hashes k ≢ h)

-- Between two views the units us were interned or looked for, with `answer`, by an agent that noted `hashes`:
-- no slot was loaded that was noted with another hash. The slot of the answer is noted after it, where there
-- is room for its number, what was noted is so still, and all notes are right.
pub record NotesHash (v w : View) (us : List ℕ) (answer : Option ℕ) (hashes later : List ℕ) : Type 0 where
  pub right : AreHashes w later
  pub room : length later ≡ length hashes
  pub kept : (k : ℕ) → 0 < slice_index hashes k → 0 < slice_index later k
  pub noted : (i k : ℕ) → answer ≡ Some i → Has w.slots k i → k < length hashes → 0 < slice_index later k
  pub passed : (k : ℕ) → IsNotedApart hashes k (noted_hash us) → loads_at w k ≡ loads_at v k
