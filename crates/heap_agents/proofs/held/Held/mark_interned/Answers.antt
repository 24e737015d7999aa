use Rattle.heap_agents.specs.Held.{held_size}
use Rattle.heap_agents.proofs.Marks.{below, interned_held}
use Rattle.heap_agents.proofs.held.Held.mark_interned.Goals as goal

pub returns-clause-held : goal.returns-clause-held
returns-clause-held c = let a = c.add.ensures in let b = c.add-2.ensures in
    interned_held c.args.self.now c.args.id c.add.new.self c.add-2.new.self c.requires.held c.requires.known c.requires.call a.room a.only
    (a.there (held_size c.args.self.now).ids c.requires.held.marked.room (below c.args.self.now c.requires.held c.args.id c.requires.known)) a.kept b.room b.only

pub returns-clause-marked : goal.returns-clause-marked
returns-clause-marked c = let x = c.args.self.now in let a = c.add.ensures in let b = c.add-2.ensures in
    let low = below x c.requires.held c.args.id c.requires.known in record {
      known = a.there (held_size x).ids c.requires.held.marked.room low;
      interned = b.there (held_size x).ids c.requires.held.marked.calls_room low;
      only = a.only;
      only_interned = b.only;
    }
