-- Helpers: no public contract reaches these definitions.
-- What agents that read one string at once ask.
use Rattle.std.specs.Prelude.{ℕ, ◌≤◌}
use Rattle.heap_rule.specs.Maps.{HasKey}
use Rattle.heap_table.specs.declared.agent.Agent.{Agent}
use Rattle.heap_table.specs.declared.heap.Heap.{Heap}
use Rattle.heap_table.specs.Agents.{Belongs, share_of, view_of}

-- the agent knows the string, and has a share for so many agents
pub record MayRead (a : Agent) (h : Heap) (id agents : ℕ) : Type 0 where
  pub belongs : Belongs a h
  pub known : HasKey (view_of a).units id
  pub some : 1 ≤ agents
  pub share : agents ≤ share_of a
