use Rattle.std.proofs.Common.{◌≡◌, ◌-◌, ◌≤◌, ◌<◌, ◌+◌, ℕ, get_or}
use Rattle.heap_rule.specs.Contents.{lane_in}
use Rattle.heap_rule.specs.Views.{shown_word}
use Rattle.heap_core_births.proofs.births.has_span.Given as goal

abbrev pub invariant-lanes : goal.invariant-lanes
invariant-lanes l = ((k : ℕ) → k < l.o → lane_in (shown_word l.view) l.wide l.start (0 + k) ≡ get_or l.us k 0) × (l.o ≤ l.n)

abbrev pub decreases-lanes : goal.decreases-lanes
decreases-lanes l = l.n - l.o
