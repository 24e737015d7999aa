-- What holds of a session that has the whole share of its heap, so that no other agent is there.
use Rattle.std.specs.Prelude.{◌≡◌, ℕ, ◌≤◌, List, IsTrue}
use Rattle.js_store.specs.State.{State}
use Rattle.heap_intern.specs.Counting.{different}
use Rattle.heap_session.specs.Sessions.{SessionFrame}
use Rattle.heap_session.specs.Shares.{IsWhole}

-- No counter was ever read past what the session used, which is no more than the heap has. The history has as
-- many different lists as slots are used: at most as many as there are, each with an id of its own, and all
-- of them where a list is shut.
pub record HasWholeCounts (s : State SessionFrame) : Type 0 where
  pub low_ids : s.low_ids ≤ s.used_ids
  pub low_words : s.low_words ≤ s.used_words
  pub ids : s.used_ids ≤ s.sizes.ids
  pub words : s.used_words ≤ s.sizes.words
  pub slots : different s.history ≤ s.sizes.slots
  pub slot_ids : different s.history ≤ s.used_ids
  pub shut : (u : List ℕ) → IsTrue (s.shut u) → different s.history ≡ s.sizes.slots

abbrev pub WholeHasAll : State SessionFrame → Type 0
WholeHasAll s = IsWhole s → HasWholeCounts s
