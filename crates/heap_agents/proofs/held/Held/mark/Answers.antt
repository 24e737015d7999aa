use Rattle.std.proofs.Common.{refl}
use Rattle.heap_agents.specs.Held.{held_size}
use Rattle.heap_agents.proofs.Marks.{below}
use Rattle.heap_agents.proofs.held.Held.mark.Goals as goal

pub returns-clause-marked : goal.returns-clause-marked
returns-clause-marked c = let x = c.args.self.now in let add = c.add.ensures in record {
  known = add.there (held_size x).ids c.requires.held.marked.room (below x c.requires.held c.args.id c.requires.known);
  only = add.only;
  interned = refl;
}
