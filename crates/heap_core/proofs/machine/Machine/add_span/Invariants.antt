use Rattle.std.proofs.Common.{◌≡◌, ◌-◌, ◌≤◌, ◌++◌}
use Rattle.heap_rule.specs.Layout.{content}
use Rattle.heap_rule.specs.Contents.{span}
use Rattle.heap_core.proofs.machine.Machine.add_span.Given as goal

abbrev pub invariant-lanes : goal.invariant-lanes
invariant-lanes l = (l.out ++ span (content l.self.size l.self.words.items) l.wide l.start l.o (l.end - l.o) ≡ l.fn.out ++ span
    (content l.self.size l.self.words.items) l.wide l.start l.from l.n) × (l.o ≤ l.end)

abbrev pub decreases-lanes : goal.decreases-lanes
decreases-lanes l = l.end - l.o
