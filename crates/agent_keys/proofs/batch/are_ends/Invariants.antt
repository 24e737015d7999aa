use Rattle.std.proofs.Common.{◌↔◌, ◌<◌, ◌^◌, drop}
use Rattle.agent_keys.specs.Batch.{AreEnds}
use Rattle.agent_keys.proofs.batch.are_ends.Given as goal

abbrev pub invariant-loop-k : goal.invariant-loop-k
invariant-loop-k l = record {
  small : l.from < 2 ^ 32;
  same : AreEnds 0 l.units l.ends ↔ AreEnds l.from l.units (drop l.k l.ends);
}
