-- Sessions that are split and joined.
use Rattle.std.specs.Prelude.{◌≡◌, ℕ, ◌+◌, ◌-◌, max, List, ◌++◌, IsSome, IsTrue}
use Rattle.heap_rule.specs.Paths.{Calls, StartsWith}
use Rattle.heap_table.specs.Agents.{Belongs, size_of}
use Rattle.heap_table.specs.declared.agent.Agent.{Agent}
use Rattle.heap_table.specs.declared.heap.Heap.{Heap}
use Rattle.js_store.specs.State.{StoreSizes, State}
use Rattle.heap_session.specs.Sessions.{SessionFrame, table_of}

-- the sizes of a heap, as a store reports them
abbrev pub sizes_of : Heap → StoreSizes
sizes_of h = record { ids = (size_of h).ids; words = (size_of h).words; slots = (size_of h).slots }

-- the session is one of this heap
abbrev pub IsOf : State SessionFrame → Heap → Type 0
IsOf s h = (s.frame.table ≡ table_of h) × (s.sizes ≡ sizes_of h)

-- the session has the whole share of its heap
abbrev pub IsWhole : State SessionFrame → Type 0
IsWhole s = s.frame.share ≡ s.frame.agents

-- a split: the giver keeps the rest of its share; the new session knows the same, has used nothing,
-- and its history is the giver's
abbrev pub giver_after : State SessionFrame → ℕ → State SessionFrame
giver_after s give = record s { frame = record s.frame { share = s.frame.share - give } }

abbrev pub right_by : State SessionFrame → ℕ → State SessionFrame
right_by s give =
    record s { used_ids = 0; used_words = 0; frame = record s.frame { share = give; seen = s.history } }

-- joining b into a: two sessions of one heap with one limit; b was split off with calls that a knows by now,
-- among which are those that a was split off with, so that no call is in the history twice
pub record MayJoinSession (a b : State SessionFrame) : Type 0 where
  pub table : b.frame.table ≡ a.frame.table
  pub sizes : b.sizes ≡ a.sizes
  pub limit : b.limit ≡ a.limit
  pub first : StartsWith b.frame.seen a.frame.seen
  pub second : StartsWith a.history b.frame.seen

-- what both knew, read and used the joined session knows, has read and has used; its history is its own,
-- followed by the calls of the other since its split
pub record IsSessionJoined (a b c : State SessionFrame) : Type 0 where
  pub known : (n : ℕ) → IsSome (a.known n) → c.known n ≡ a.known n
  pub known_of_other : (n : ℕ) → IsSome (b.known n) → c.known n ≡ b.known n
  pub settled : (n : ℕ) → IsTrue (a.settled n) → IsTrue (c.settled n)
  pub settled_of_other : (n : ℕ) → IsTrue (b.settled n) → IsTrue (c.settled n)
  pub shut : (u : List ℕ) → IsTrue (a.shut u) → IsTrue (c.shut u)
  pub shut_of_other : (u : List ℕ) → IsTrue (b.shut u) → IsTrue (c.shut u)
  pub history : (calls : Calls) → b.history ≡ b.frame.seen ++ calls → c.history ≡ a.history ++ calls
  pub used_ids : c.used_ids ≡ a.used_ids + b.used_ids
  pub used_words : c.used_words ≡ a.used_words + b.used_words
  pub low_ids : c.low_ids ≡ max a.low_ids b.low_ids
  pub low_words : c.low_words ≡ max a.low_words b.low_words
  pub sizes : c.sizes ≡ a.sizes
  pub limit : c.limit ≡ a.limit
  pub frame : c.frame ≡ record a.frame { share = a.frame.share + b.frame.share }

-- both counters were read: each was what was used, and the session that has used all of it
abbrev pub total_by : State SessionFrame → State SessionFrame
total_by s = record s { low_ids = s.used_ids; low_words = s.used_words }

-- the agent of a session belongs to the heap of the session
abbrev pub BelongsAs : State SessionFrame → Agent → Type 0
BelongsAs s a = (h : Heap) → IsOf s h → Belongs a h
