use Rattle.heap_table.proofs.Keeps.{cons_in_range, is_flattening}
use Rattle.heap_table.proofs.agent.Agent.flatten_step.Goals as goal

pub encode-requires : goal.encode-requires
encode-requires c = let v = c.args.self.now.seat.me.0 in
    let may = is_flattening v c.args.id c.args.old c.args.new c.requires.may in cons_in_range v c.requires.belongs.5 c.args.id c.args.old may.0 may.1
