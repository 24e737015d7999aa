-- What a session notes of the slots of the string table: at the place of each slot 0, or what its string
-- hashes to, with 1 in place of 0.
use Rattle.std.specs.Prelude.{◌≡◌, ℕ, List, [], Option, Some, None, Vec}
use Rattle.std.specs.Global.{Global}
use Rattle.heap_rule.specs.declared.view.View.{View}
use Rattle.heap_intern.specs.Hashes.{IsNotedApart, noted_hash}
use Rattle.heap_intern.specs.SlotLoads.{loads_at}
use Rattle.heap_session.specs.declared.noted.Noted.{Noted}

abbrev pub hashes_of : Option (Vec ℕ Global) → List ℕ
hashes_of None = []
hashes_of (Some hashes) = hashes.items

abbrev pub hashes_in : Noted → List ℕ
hashes_in n = hashes_of n.hashes

-- between two views no slot was loaded that was noted with another hash than that of the units us
abbrev pub PassesNoted : List ℕ → View → View → List ℕ → Type 0
PassesNoted hashes v w us = (k : ℕ) → IsNotedApart hashes k (noted_hash us) → loads_at w k ≡ loads_at v k
