use Rattle.std.proofs.Common.{◌≡◌, ◌-◌, ◌≤◌, ◌++◌}
use Rattle.heap_rule.specs.Contents.{span}
use Rattle.heap_rule.specs.Learning.{frozen_word}
use Rattle.heap_core_views.proofs.learning.frozen_span.Given as goal

abbrev pub invariant-lanes : goal.invariant-lanes
invariant-lanes l = (l.units ++ span (frozen_word l.view) l.wide l.start l.o (l.n - l.o) ≡ span (frozen_word l.view) l.wide l.start 0 l.n) × (l.o ≤ l.n)

abbrev pub decreases-lanes : goal.decreases-lanes
decreases-lanes l = l.n - l.o
