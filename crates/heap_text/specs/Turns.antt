-- Helpers: no public contract reaches these definitions.
-- What a thread leaves of the agent that it had, as one fact.
use Rattle.heap_rule.specs.declared.view.View.{View}
use Rattle.heap_table.specs.declared.agent.Agent.{Agent}
use Rattle.heap_table.specs.declared.heap.Heap.{Heap}
use Rattle.heap_table.specs.Agents.{Belongs, view_of}
use Rattle.heap_read.specs.Reads.{Continues}

-- the agent knew v before; it belongs to the heap, and goes on from v
pub record GoesOn (v : View) (a : Agent) (h : Heap) : Type 0 where
  pub belongs : Belongs a h
  pub continues : Continues v (view_of a)
