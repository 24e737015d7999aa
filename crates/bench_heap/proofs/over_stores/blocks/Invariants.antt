use Rattle.std.proofs.Common.{◌≡◌, length}
use Rattle.js_store.specs.State.{IsKnown, IsSettled, text}
use Rattle.bench_heap.proofs.over_stores.blocks.Given as goal

abbrev pub invariant-loop-turn : goal.invariant-loop-turn
invariant-loop-turn g l =
    let state = g.S.Strings.state in
    let number = g.S.Strings.number in
    record {
      known : IsKnown (state l.store) (number l.s);
      settled : IsSettled (state l.store) (number l.s);
      units : length (text (state l.store) (number l.s)) ≡ 1000000;
    }
