-- What is used of a heap, as an agent sees it while others use it.
use Rattle.std.specs.Prelude.{◌≡◌, ℕ, ◌≤◌, Option, Some, None}
use Rattle.heap_rule.specs.Claims.{loaded_counter}
use Rattle.heap_rule.specs.declared.size.Counter.TheVariants.{Ids, Words}
use Rattle.heap_agents.specs.declared.held.Held.{Held}
use Rattle.heap_agents.specs.declared.room.Room.{Room}
use Rattle.heap_agents.specs.Held.{IsHeld, IsSame, KeepsMarks, MarksNothing, held_size, view_by}
use Rattle.heap_ids.specs.Sets.{set_size}

-- a number that a counter had: no less than what the agent saw of it before and than what it claimed, and at
-- most the size of the heap
abbrev pub IsCounterAt : ℕ → ℕ → ℕ → ℕ → Type 0
IsCounterAt seen used size n = (seen ≤ n) × (used ≤ n) × (n ≤ size)

-- Both counters were loaded, so that what the agent sees of them later is no less; nothing else changed. The
-- rest of the answer are the sizes of the heap, and how many strings are marked as interned.
pub record IsGauged (x y : Held) (r : Room) : Type 0 where
  pub held : IsHeld y
  pub same : IsSame x y
  pub marks : KeepsMarks x y
  pub marked : MarksNothing x y
  pub view : view_by y ≡ loaded_counter (loaded_counter (view_by x) Ids r.ids) Words r.words
  pub ids : IsCounterAt (view_by x).low.ids (view_by x).used.ids (held_size x).ids r.ids
  pub words : IsCounterAt (view_by x).low.words (view_by x).used.words (held_size x).words r.words
  pub size : r.size ≡ held_size x
  pub seen : r.seen_slots ≡ set_size x.interned (held_size x).ids

-- the same of what lies behind a handle, where something does
abbrev pub RoomOf : Option Held → Option Held → Room → Type 0
RoomOf None _ r = ⊥
RoomOf (Some x) None r = ⊥
RoomOf (Some x) (Some y) r = IsGauged x y r
