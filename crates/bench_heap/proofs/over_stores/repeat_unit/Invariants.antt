use Rattle.js_store.specs.State.{IsKnown}
use Rattle.bench_heap.proofs.over_stores.repeat_unit.Given as goal

abbrev pub invariant-loop-turn : goal.invariant-loop-turn
invariant-loop-turn g l = IsKnown (g.S.Strings.state l.store) (g.S.Strings.number l.unit)
