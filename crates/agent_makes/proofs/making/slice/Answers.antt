use Rattle.heap_rule.proofs.MapLemmas.{key_of}
use Rattle.heap_reserve.proofs.Tried.{cut_told}
use Rattle.heap_agents.specs.Held.{view_by}
use Rattle.agent_makes.proofs.Renewed.{cuts_then, marks_then, spends_trans}
use Rattle.agent_makes.proofs.making.slice.Goals as goal

pub returns-clause-spends : goal.returns-clause-spends
returns-clause-spends c = spends_trans c.args.agent.now c.renew_for_part.new.agent c.take_part.new.agent c.renew_for_part.ensures.prepared.spends c.take_part.ensures.spends

pub returns-clause-marked : goal.returns-clause-marked
returns-clause-marked c = marks_then c.args.agent.now c.renew_for_part.new.agent c.take_part.new.agent c.renew_for_part.ensures.prepared c.take_part.result c.take_part.ensures.marked

pub returns-clause-cut : goal.returns-clause-cut
returns-clause-cut c us h = let u = c.renew_for_part.ensures.prepared.spends.continues.known.units in
    let x = c.args.agent.now in let z = c.renew_for_part.new.agent in let y = c.take_part.new.agent in let p = c.renew_for_part.ensures in let t = c.take_part.ensures in
    cuts_then x z y p.prepared c.args.s c.args.from c.args.to us c.take_part.result (p.renews us h) (t.cut us (u c.args.s.id us h))

pub returns-clause-units : goal.returns-clause-units
returns-clause-units c = let x = c.args.agent.now in let z = c.renew_for_part.new.agent in let y = c.take_part.new.agent in let p = c.renew_for_part.ensures in let t = c.take_part.ensures in
    cut_told (view_by x) (view_by z) (view_by y) p.prepared.spends.continues.known c.args.s c.args.from c.args.to c.take_part.result t.units

pub renew_for_part-requires-clause-known : goal.renew_for_part-requires-clause-known
renew_for_part-requires-clause-known c = let u = c.requires.within in key_of (view_by c.args.agent.now).units c.args.s.id u.0 u.1

pub take_part-requires-clause-settled : goal.take_part-requires-clause-settled
take_part-requires-clause-settled c = c.renew_for_part.ensures.prepared.spends.continues.known.settled c.args.s.id c.requires.settled

pub take_part-requires-clause-within : goal.take_part-requires-clause-within
take_part-requires-clause-within c = let u = c.requires.within in (u.0, c.renew_for_part.ensures.prepared.spends.continues.known.units c.args.s.id u.0 u.1, u.2, u.3)
