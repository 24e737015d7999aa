use Rattle.heap_bytes.specs.Spellings.{spelling_units}
use Rattle.agent_makes.proofs.Renewed.{makes_then, marks_then, spends_trans}
use Rattle.agent_makes.proofs.making.make_from.Goals as goal

pub returns-clause-spends : goal.returns-clause-spends
returns-clause-spends c = spends_trans c.args.agent.now c.renew_for_key.new.agent c.take_spelled.new.agent c.renew_for_key.ensures.prepared.spends c.take_spelled.ensures.spends

pub returns-clause-marked : goal.returns-clause-marked
returns-clause-marked c = marks_then c.args.agent.now c.renew_for_key.new.agent c.take_spelled.new.agent c.renew_for_key.ensures.prepared c.take_spelled.result c.take_spelled.ensures.marked

pub returns-clause-made : goal.returns-clause-made
returns-clause-made c = let x = c.args.agent.now in let z = c.renew_for_key.new.agent in let y = c.take_spelled.new.agent in let p = c.renew_for_key.ensures in let t = c.take_spelled.ensures in
    makes_then x z y p.prepared (spelling_units c.args.source.now) c.take_spelled.result p.renews t.made
