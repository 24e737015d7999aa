use Rattle.std.proofs.Common.{ap, refl}
use Rattle.std.specs.Arc.{arc_value}
use Rattle.heap_table.specs.Agents.{view_of}
use Rattle.heap_agents.specs.Shared.{SharedText}
use Rattle.heap_agents.proofs.Calls.{calls_looked, own_looked}
use Rattle.heap_agents.proofs.Marks.{held_on}
use Rattle.heap_agents.proofs.held.Held.count_interned.Goals as goal

pub returns-clause-held : goal.returns-clause-held
returns-clause-held c = let t = c.in-Some.text in let call = c.count_interned in let e = call.ensures in let u : SharedText = record t { reader = call.new.reader; within = _ } in
    held_on c.args.self.now t u c.in-Some.is (ap arc_value e.heap) refl c.requires.held e.looks.goes.known (calls_looked (view_of t.reader.agent) (view_of u.reader.agent) e.looks) e.looks.goes.agents
    (own_looked (view_of t.reader.agent) (view_of u.reader.agent) e.looks)
