use Rattle.std.proofs.Common.{◌≡◌, ◌-◌}
use Rattle.heap_rule.specs.Claims.{loaded_counter}
use Rattle.heap_rule.specs.declared.size.Counter.TheVariants.{Ids}
use Rattle.heap_table.specs.Agents.{Belongs, view_of}
use Rattle.heap_table.specs.Plays.{FoundCounter}
use Rattle.heap_table.proofs.agent.Agent.claim_ids.Given as goal

abbrev pub invariant-tries : goal.invariant-tries
invariant-tries l = (view_of l.self ≡ loaded_counter (view_of l.fn.self) Ids l.at) × Belongs l.self l.heap × FoundCounter (view_of l.fn.self) Ids l.at

abbrev pub decreases-tries : goal.decreases-tries
decreases-tries l = l.end - l.at
