-- Which heaps may be made.
use Rattle.std.specs.Prelude.{ℕ, ◌≤◌}
use Rattle.heap_rule.specs.declared.size.HeapSize.{HeapSize}
use Rattle.heap_rule.specs.Layout.{IsLawfulSize}

-- valid sizes, and 1 to 64 agents
abbrev pub MayMake : HeapSize → ℕ → Type 0
MayMake z agents = IsLawfulSize z × (1 ≤ agents) × (agents ≤ 64)
