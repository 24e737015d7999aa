use Rattle.std.proofs.Common.{ap}
use Rattle.std.specs.Arc.{arc_value}
use Rattle.agent_searches.proofs.Searched.{loaded, means}
use Rattle.agent_searches.proofs.search.compare.Goals as goal

pub returns-clause-searched : goal.returns-clause-searched
returns-clause-searched c = let call = c.compare_strings in
    loaded c.args.agent.now c.in-Some.text call.new.text c.in-Some.is (ap arc_value call.ensures.kept.heap) call.ensures.kept.limit c.requires.held call.ensures.reads

pub returns-clause-means : goal.returns-clause-means
returns-clause-means c = means c.args.agent.now c.in-Some.text c.in-Some.is c.args.a.id c.args.b.id c.compare_strings.result c.compare_strings.ensures.order
