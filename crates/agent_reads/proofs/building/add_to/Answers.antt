use Rattle.heap_agents.proofs.Marks.{leaves_reads}
use Rattle.agent_reads.proofs.building.add_to.Goals as goal

pub returns-clause-leaves : goal.returns-clause-leaves
returns-clause-leaves c = let call = c.push_text in leaves_reads c.args.agent.now c.in-Some.text call.new.text c.in-Some.is c.requires.held call.ensures.kept call.ensures.reads
