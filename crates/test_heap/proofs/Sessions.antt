-- The heap of a session.
use Rattle.std.proofs.Common.{◌≡◌, ℕ, ap, ◌∙◌}
use Rattle.heap_table.specs.declared.agent.Agent.{Agent}
use Rattle.heap_table.specs.declared.heap.Heap.{Heap}
use Rattle.heap_table.specs.Agents.{size_of, view_of}
use Rattle.js_store.specs.State.{State}
use Rattle.heap_session.specs.Sessions.{SessionFrame, state_by, table_of}
use Rattle.heap_session.specs.Shares.{IsOf}

-- a new session is one of its heap
pub is_of : (a : Agent) (h : Heap) (n : ℕ) (s : State SessionFrame) → s ≡ state_by (view_of a) n (table_of h) → (view_of a).sizes ≡ size_of h → IsOf s h
is_of a h n s e z = (
  ap (λ (x : State SessionFrame). x.frame.table) e,
  ap (λ (x : State SessionFrame). x.sizes) e ∙ (λ i. record { ids = (z i).ids; words = (z i).words; slots = (z i).slots }),
)
