-- What is done for a new string before it is made: the reserve is renewed where the string needs that, which
-- D says; else nothing but loads happened.
use Rattle.std.specs.Prelude.{◌≡◌, ℕ}
use Rattle.heap_read.specs.Reads.{OnlyLoads}
use Rattle.heap_agents.specs.declared.held.Held.{Held}
use Rattle.heap_agents.specs.Held.{MarksNothing, SpendsReserve, view_by}
use Rattle.agent_makes.specs.Spending.{Renews}

pub record Prepares (D : Type 0) (x z : Held) (n : ℕ) : Type 0 where
  pub renewed : D → Renews x z n
  pub left : (D → ⊥) → OnlyLoads (view_by x) (view_by z) × (z.reserve ≡ x.reserve)

-- what is so of every one
pub record IsPrepared (x z : Held) : Type 0 where
  pub spends : SpendsReserve x z
  pub marked : MarksNothing x z
