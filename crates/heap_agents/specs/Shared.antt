-- What contracts see of the text that a handle holds: that it is there, what its agent knows,
-- and its heap's sizes.
use Rattle.std.specs.Prelude.{◌≡◌, ℕ, Option, None, Some}
use Rattle.std.specs.Arc.{arc_value}
use Rattle.std.specs.declared.sync.Arc.{Arc}
use Rattle.std.specs.Global.{Global}
use Rattle.heap_rule.specs.Agents.{spent}
use Rattle.heap_rule.specs.declared.size.HeapSize.{HeapSize}
use Rattle.heap_rule.specs.declared.view.View.{View}
use Rattle.heap_table.specs.declared.heap.Heap.{Heap}
use Rattle.heap_table.specs.Agents.{share_of, size_of, view_of}
use Rattle.heap_read.specs.contracts.heap_ref.ArcHeapGlobalHeapRef.TheImpl.{ghosts}
use Rattle.heap_text.specs.declared.text.Text.{Text}

-- a text that owns its heap by a count
abbrev pub SharedText : Type 0
SharedText = Text (Arc Heap Global) ghosts

abbrev pub heap_of : SharedText → Heap
heap_of t = arc_value t.reader.heap

abbrev pub IsThere : Option SharedText → Type 0
IsThere None = ⊥
IsThere (Some t) = Unit {0}

abbrev pub view_if : Option SharedText → View
view_if None = spent
view_if (Some t) = view_of t.reader.agent

abbrev pub share_if : Option SharedText → ℕ
share_if None = 0
share_if (Some t) = share_of t.reader.agent

abbrev pub limit_if : Option SharedText → ℕ
limit_if None = 0
limit_if (Some t) = t.limit

abbrev pub size_if : Option SharedText → HeapSize
size_if None = record { ids = 0; words = 0; slots = 0 }
size_if (Some t) = size_of (heap_of t)

-- what every call leaves: the heap, and the limit
abbrev pub IsSameText : Option SharedText → Option SharedText → Type 0
IsSameText None _ = ⊥
IsSameText (Some s) None = ⊥
IsSameText (Some s) (Some t) = (heap_of t ≡ heap_of s) × (t.limit ≡ s.limit)
