use Rattle.std.proofs.Common.{arith}
use Rattle.heap_agents.proofs.Marks.{ids_fit}
use Rattle.agent_makes.proofs.spending.reserved.Goals as goal

pub overflow_cast-result : goal.overflow_cast-result
overflow_cast-result c = let fits = ids_fit c.args.agent.now c.requires in let ids = c.ids_left-ids.ensures in omega (arith, fits, ids)
