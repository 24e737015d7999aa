use Rattle.std.proofs.Common.{◌≡◌, ◌-◌, ◌≤◌, ◌++◌}
use Rattle.heap_rule.specs.Contents.{span}
use Rattle.heap_rule.specs.Views.{shown_word}
use Rattle.heap_core_births.proofs.births.span.Given as goal

abbrev pub invariant-lanes : goal.invariant-lanes
invariant-lanes l = (l.units ++ span (shown_word l.view) l.wide l.start l.o (l.n - l.o) ≡ span (shown_word l.view) l.wide l.start 0 l.n) × (l.o ≤ l.n)

abbrev pub decreases-lanes : goal.decreases-lanes
decreases-lanes l = l.n - l.o
