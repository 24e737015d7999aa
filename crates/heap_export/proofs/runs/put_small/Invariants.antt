use Rattle.std.proofs.Common.{◌≡◌, take}
use Rattle.heap_export.proofs.runs.put_small.Given as goal

abbrev pub invariant-loop-k : goal.invariant-loop-k
invariant-loop-k l = record {
  bytes : take l.k l.out ≡ take l.k l.units;
}
