-- What the clauses of a handle's calls say of what lies behind it, where something does.
use Rattle.std.specs.Prelude.{◌≡◌, ℕ, Option, None, Some}
use Rattle.heap_rule.specs.Agents.{spent}
use Rattle.heap_rule.specs.declared.size.HeapSize.{HeapSize}
use Rattle.heap_rule.specs.declared.view.View.{View}
use Rattle.heap_ids.specs.Sets.{IsIn}
use Rattle.heap_agents.specs.declared.held.Held.{Held}
use Rattle.heap_agents.specs.Held.{IsHeld, IsSame, KeepsMarks, LeavesStrings, LeavesSearched, SpendsReserve}
use Rattle.heap_agents.specs.Held.{StaysMarked, limit_by, share_by, held_size, view_by}

-- a handle that a call may be made with
abbrev pub IsReady : Option Held → Type 0
IsReady None = ⊥
IsReady (Some x) = IsHeld x

-- what its agent knows, and its share
abbrev pub handle_view : Option Held → View
handle_view None = spent
handle_view (Some x) = view_by x

abbrev pub share_in : Option Held → ℕ
share_in None = 0
share_in (Some x) = share_by x

-- the sizes of its heap, and the limit of the strings that it joins
abbrev pub size_in : Option Held → HeapSize
size_in None = record { ids = 0; words = 0; slots = 0 }
size_in (Some x) = held_size x

abbrev pub handle_limit : Option Held → ℕ
handle_limit None = 0
handle_limit (Some x) = limit_by x

-- it has the whole share
abbrev pub HasWhole : Option Held → Type 0
HasWhole None = ⊥
HasWhole (Some x) = (view_by x).share ≡ (view_by x).agents

-- two handles of one heap, and of one limit
abbrev pub IsBeside : Option Held → Option Held → Type 0
IsBeside None _ = ⊥
IsBeside (Some x) None = ⊥
IsBeside (Some x) (Some y) = IsSame x y

-- what a call leaves of what is marked that leaves the reserve
abbrev pub MarksStay : Option Held → Option Held → Type 0
MarksStay None _ = ⊥
MarksStay (Some x) None = ⊥
MarksStay (Some x) (Some y) = KeepsMarks x y

-- what every call leaves of what is marked
abbrev pub HandleStaysMarked : Option Held → Option Held → Type 0
HandleStaysMarked None _ = ⊥
HandleStaysMarked (Some x) None = ⊥
HandleStaysMarked (Some x) (Some y) = StaysMarked x y

abbrev pub HandleSpends : Option Held → Option Held → Type 0
HandleSpends None _ = ⊥
HandleSpends (Some x) None = ⊥
HandleSpends (Some x) (Some y) = SpendsReserve x y

abbrev pub HandleLeaves : Option Held → Option Held → Type 0
HandleLeaves None _ = ⊥
HandleLeaves (Some x) None = ⊥
HandleLeaves (Some x) (Some y) = LeavesStrings x y

abbrev pub HandleSearches : Option Held → Option Held → Type 0
HandleSearches None _ = ⊥
HandleSearches (Some x) None = ⊥
HandleSearches (Some x) (Some y) = LeavesSearched x y

-- the agent may use this id: no other is answered by a call, nor comes from a join
abbrev pub HandleKnows : Option Held → ℕ → Type 0
HandleKnows None i = ⊥
HandleKnows (Some x) i = IsIn x.known i

-- an answer of the string table that the agent knows
abbrev pub HasInterned : Option Held → ℕ → Type 0
HasInterned None i = ⊥
HasInterned (Some x) i = IsIn x.interned i

-- the number of an agent, which no other agent of its heap has,
-- and that of the agent that it was split off from
abbrev pub handle_number : Option Held → ℕ
handle_number None = 0
handle_number (Some x) = x.number

abbrev pub giver_in : Option Held → ℕ
giver_in None = 0
giver_in (Some x) = x.giver
