use Rattle.heap_table.proofs.Keeps.{thin_in_range}
use Rattle.heap_table.proofs.agent.Agent.thin_step.Goals as goal

pub encode-requires : goal.encode-requires
encode-requires c = thin_in_range c.args.self.now.seat.me.0 c.requires.belongs.5 c.args.id c.args.old c.requires.may.0 c.requires.may.1
