use Rattle.std.proofs.Common.{◌-◌, ◌<◌, ℕ, length, get_or}
use Rattle.std.specs.Prelude.{IsSome}
use Rattle.heap_rule.specs.Learning.{justified}
use Rattle.heap_core_views.specs.Loading.{loaded_by}
use Rattle.heap_core_views.proofs.load.Load.justifies_all.Given as goal

abbrev pub invariant-names : goal.invariant-names
invariant-names l = (k d : ℕ) → k < l.k → IsSome (justified (loaded_by l.view l.self) (get_or l.names k d))

abbrev pub decreases-names : goal.decreases-names
decreases-names l = length l.names - l.k
