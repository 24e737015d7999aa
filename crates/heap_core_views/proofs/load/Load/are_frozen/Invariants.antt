use Rattle.std.proofs.Common.{◌≡◌, ◌+◌}
use Rattle.heap_rule.specs.Learning.{all_frozen}
use Rattle.heap_core_views.specs.Loading.{loaded_by}
use Rattle.heap_core_views.proofs.load.Load.are_frozen.Given as goal

abbrev pub invariant-words : goal.invariant-words
invariant-words l = (all_frozen (loaded_by l.view l.self) l.at l.left ≡ all_frozen (loaded_by l.view l.self) l.from l.n) × (l.at + l.left ≡ l.from + l.n)

abbrev pub decreases-words : goal.decreases-words
decreases-words l = l.left
