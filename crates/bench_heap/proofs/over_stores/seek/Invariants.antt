use Rattle.js_store.specs.State.{IsKnown, IsSettled}
use Rattle.bench_heap.proofs.over_stores.seek.Given as goal

abbrev pub invariant-loop-turn : goal.invariant-loop-turn
invariant-loop-turn g l =
    let state = g.S.Strings.state in
    let number = g.S.Strings.number in
    record {
      known : IsKnown (state l.store) (number l.s);
      settled : IsSettled (state l.store) (number l.s);
      absent_known : IsKnown (state l.store) (number l.absent);
      absent_settled : IsSettled (state l.store) (number l.absent);
    }
