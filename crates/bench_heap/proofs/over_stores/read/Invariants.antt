use Rattle.std.proofs.Common.{◌≡◌, length}
use Rattle.js_store.specs.State.{IsKnown, IsSettled, text}
use Rattle.bench_heap.proofs.over_stores.read.Given as goal

abbrev pub invariant-loop-i : goal.invariant-loop-i
invariant-loop-i g l =
    let state = g.S.Strings.state in
    let number = g.S.Strings.number in
    record {
      known : IsKnown (state l.store) (number l.s);
      settled : IsSettled (state l.store) (number l.s);
      units : length (text (state l.store) (number l.s)) ≡ 1000000;
    }
