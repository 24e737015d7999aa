-- What contracts see of an agent and of a heap.
use Rattle.std.specs.Prelude.{◌≡◌, ℕ, true, []}
use Rattle.heap_rule.specs.declared.size.HeapSize.{HeapSize}
use Rattle.heap_rule.specs.declared.view.View.{View}
use Rattle.heap_rule.specs.Sound.{IsPossible}
use Rattle.heap_table.specs.declared.agent.Agent.{Agent}
use Rattle.heap_table.specs.declared.heap.Heap.{Heap}

-- what the agent knows
abbrev pub view_of : Agent → View
view_of a = a.seat.me.0

-- how many agents this one may become, itself counted
abbrev pub share_of : Agent → ℕ
share_of a = a.share

-- the sizes of the heap
abbrev pub size_of : Heap → HeapSize
size_of h = h.size

-- An agent of this heap: it steps in the heap's table, its view is live and has the heap's sizes and its own
-- share, and some sound state of a heap has that view. The last is all that the rule says of a view alone,
-- and what a step asks rests on it.
abbrev pub Belongs : Agent → Heap → Type 0
Belongs a h = (a.seat.table_id ≡ h.table.shared.table_id) × ((view_of a).sizes ≡ size_of h)
    × ((view_of a).live ≡ true) × (a.seat.me.1 ≡ []) × ((view_of a).share ≡ share_of a)
    × IsPossible (view_of a)
