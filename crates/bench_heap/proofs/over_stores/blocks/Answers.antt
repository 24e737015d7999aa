use Rattle.std.proofs.Common.{◌≡◌, length, ap, arith}
use Rattle.bench_heap.proofs.over_stores.blocks.Goals as goal

pub read-requires-clause-within : goal.read-requires-clause-within
read-requires-clause-within g c = let u = c.loop-turn.invariant.units in let long : length c.as_mut_slice.result.now ≡ 250 = ap length c.as_mut_slice.ensures.value in omega arith
