-- What is kept of a run.
use Rattle.std.specs.Prelude.{refl}
use Rattle.std.specs.Coded.{Coded, code_by, coded×}
use Rattle.heap_table.specs.declared.agent.Agent.{Agent}
use Rattle.heap_table.specs.declared.heap.Heap.{Heap}
use Rattle.heap_table.specs.contracts.agent.Agent as agent
use Rattle.heap_table.specs.contracts.heap.Heap as heap

-- The heap on which files were run, and its agent. That the agent is one of this heap is the invariant of the
-- code's type.
pub record HeapKept : Type 0 where
  pub heap : Heap
  pub agent : Agent

-- it is stored as the pair of both
abbrev pub kept_code : Coded HeapKept
kept_code = code_by (Heap × Agent) (coded× heap.the_row.coded agent.the_row.coded) (λ k. (k.heap, k.agent))
    (λ p. record { heap = p.0; agent = p.1 }) (λ _. refl)
