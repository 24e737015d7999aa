use Rattle.std.proofs.Common.{◌≡◌, ◌≤◌}
use Rattle.heap_intern.specs.Visits.{Counted}
use Rattle.heap_intern.proofs.table.counting.count_interned.Given as goal

abbrev pub invariant-loop-k : goal.invariant-loop-k
invariant-loop-k g l = (l.reader.heap ≡ l.fn.reader.heap) × Counted l.fn.reader.agent.seat.me.0 l.reader.agent.seat.me.0 l.k l.count × (l.count ≤ l.k)
