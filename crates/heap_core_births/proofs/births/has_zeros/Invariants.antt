use Rattle.std.proofs.Common.{◌≡◌, ◌-◌, ◌≤◌, ◌<◌, ℕ}
use Rattle.heap_rule.specs.Contents.{lane_in}
use Rattle.heap_rule.specs.Views.{shown_word}
use Rattle.heap_core_births.proofs.births.has_zeros.Given as goal

abbrev pub invariant-lanes : goal.invariant-lanes
invariant-lanes l = ((o : ℕ) → l.from ≤ o → o < l.o → lane_in (shown_word l.view) l.wide l.start o ≡ 0) × (l.from ≤ l.o)

abbrev pub decreases-lanes : goal.decreases-lanes
decreases-lanes l = l.end - l.o
