use Rattle.std.proofs.Common.{ap}
use Rattle.std.specs.Arc.{arc_value}
use Rattle.agent_searches.proofs.Searched.{loaded}
use Rattle.agent_searches.proofs.search.equal.Goals as goal

pub returns-clause-searched : goal.returns-clause-searched
returns-clause-searched c = let call = c.has_same_units in
    loaded c.args.agent.now c.in-Some.text call.new.text c.in-Some.is (ap arc_value call.ensures.kept.heap) call.ensures.kept.limit c.requires.held call.ensures.reads
