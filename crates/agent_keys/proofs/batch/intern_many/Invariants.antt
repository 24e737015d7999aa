use Rattle.std.proofs.Common.{◌<◌, ◌≤◌, ◌^◌, length, drop}
use Rattle.agent_keys.specs.Batch.{AreEnds}
use Rattle.heap_agents.specs.Held.{IsHeld}
use Rattle.agent_keys.proofs.Batched.{Completes}
use Rattle.agent_keys.proofs.batch.intern_many.Given as goal

abbrev pub invariant-loop-k : goal.invariant-loop-k
invariant-loop-k l = record {
  held : IsHeld l.agent;
  ends : AreEnds l.from (length l.units) (drop l.k l.ends);
  room : length l.ends ≤ length l.ids;
  small : l.from < 2 ^ 32;
  whole : Completes l.initial.agent l.agent l.units l.ends l.initial.ids l.ids l.from l.k;
}
