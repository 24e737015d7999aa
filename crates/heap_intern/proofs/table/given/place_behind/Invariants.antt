use Rattle.std.proofs.Common.{◌≡◌, ◌-◌, ◌<◌, ◌≤◌, ℕ, List}
use Rattle.std.specs.Prelude.{max}
use Rattle.heap_rule.specs.declared.view.View.{View}
use Rattle.heap_rule.specs.Paths.{rank}
use Rattle.heap_intern.specs.Hashes.{IsNotedApart}
use Rattle.heap_intern.specs.SlotLoads.{loads_at}
use Rattle.heap_intern.specs.Visits.{Walking}
use Rattle.heap_intern.specs.Wanted.{IsWanted}
use Rattle.heap_intern.proofs.Visiting.{Probing}
use Rattle.heap_intern.proofs.table.given.place_behind.Given as goal

abbrev pub invariant-loop-r : goal.invariant-loop-r
invariant-loop-r g l = (l.reader.heap ≡ l.fn.reader.heap) × ((us : List ℕ) → IsWanted l.fn.reader.agent.seat.me.0 l.wanted us → Probing
    l.fn.reader.agent.seat.me.0 l.reader.agent.seat.me.0 l.wanted us l.r)
    × ((us : List ℕ) → IsWanted l.fn.reader.agent.seat.me.0 l.wanted us → (b : View) (m : ℕ) → Walking b l.fn.reader.agent.seat.me.0 us l.from m l.fn.steps
    → Walking b l.reader.agent.seat.me.0 us l.r m l.steps)
    × (l.r ≤ l.n) × (l.from ≤ l.r) × ((us : List ℕ) → IsWanted l.fn.reader.agent.seat.me.0 l.wanted us
    → (k : ℕ) → rank us l.fn.reader.agent.seat.me.0.sizes.slots k < l.from → loads_at l.reader.agent.seat.me.0 k ≡ loads_at l.fn.reader.agent.seat.me.0 k)
    × ((k : ℕ) → IsNotedApart l.hashes k (max l.hash 1) → loads_at l.reader.agent.seat.me.0 k ≡ loads_at l.fn.reader.agent.seat.me.0 k)

abbrev pub decreases-loop-r : goal.decreases-loop-r
decreases-loop-r g l = l.n - l.r
