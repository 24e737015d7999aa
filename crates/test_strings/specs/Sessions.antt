-- Helpers: no public contract reaches these definitions.
-- What is left of a session that made strings, interned and read them.
use Rattle.std.specs.Prelude.{◌≡◌, ℕ, ◌≤◌, Bool, true, List, Contains, IsSome, length}
use Rattle.heap_rule.specs.Paths.{StartsWith}
use Rattle.heap_table.specs.declared.heap.Heap.{Heap}
use Rattle.heap_session.specs.Sessions.{SessionFrame}
use Rattle.heap_session.specs.Shares.{IsOf, IsWhole, giver_after, right_by}
use Rattle.js_store.specs.State.{State, IsKnown}

-- what it knew it knows, its frame, sizes and limit stay, and its history goes on
pub record GoesOn (a b : State SessionFrame) : Type 0 where
  pub known : (n : ℕ) → IsSome (a.known n) → b.known n ≡ a.known n
  pub frame : b.frame ≡ a.frame
  pub sizes : b.sizes ≡ a.sizes
  pub limit : b.limit ≡ a.limit
  pub history : StartsWith b.history a.history

-- the same as one fact, which a search uses as it is
unfoldable pub HasGoneOn : State SessionFrame → State SessionFrame → Type 0
HasGoneOn a b = GoesOn a b

-- Strings of these numbers are known by a session of this heap, which has so many agents; it may be known to
-- have the whole share, and was split off from none then.
pub record IsPlayed (s : State SessionFrame) (h : Heap) (agents : ℕ) (whole : Bool)
    (ids : List ℕ) : Type 0 where
  pub known : (i : ℕ) → Contains ids i → IsKnown s i
  pub of : IsOf s h
  pub agents_are : s.frame.agents ≡ agents
  pub whole_is : whole ≡ true → IsWhole s
  pub none_seen : whole ≡ true → length s.frame.seen ≡ 0

-- a session with the whole share of two or more gave one of them to another session
pub record IsSplit (v l r : State SessionFrame) : Type 0 where
  pub left : l ≡ giver_after v 1
  pub right : r ≡ right_by v 1
  pub whole : IsWhole v
  pub two : 2 ≤ v.frame.share
  pub none_seen : length v.frame.seen ≡ 0
