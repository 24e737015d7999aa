-- What settling a string of a text does, seen from the agent that owns the text.
use Rattle.std.proofs.Common.{◌≡◌, ℕ, Option, Some, Result, subst, sym}
use Rattle.heap_table.specs.Agents.{size_of, view_of}
use Rattle.heap_text.specs.declared.faults.TextFull.{TextFull}
use Rattle.heap_text.specs.Settling.{Settles}
use Rattle.heap_agents.specs.declared.held.Held.{Held}
use Rattle.heap_agents.specs.Held.{held_size, view_by}
use Rattle.heap_agents.specs.Shared.{SharedText, heap_of, size_if, view_if}

pub settles_on : {A : Type 0} (x : Held) (t u : SharedText) → x.text ≡ Some t → (i : ℕ) (r : Result A TextFull)
    → Settles (view_of t.reader.agent) (view_of u.reader.agent) (size_of (heap_of t)) i r → Settles (view_by x) (view_of u.reader.agent) (held_size x) i r
settles_on x t u own i r s = subst (λ (o : Option SharedText). Settles (view_if o) (view_of u.reader.agent) (size_if o) i r) (sym own) s
