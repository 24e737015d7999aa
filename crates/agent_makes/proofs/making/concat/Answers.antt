use Rattle.heap_reserve.proofs.Tried.{join_told}
use Rattle.heap_agents.specs.Held.{view_by}
use Rattle.agent_makes.proofs.Renewed.{joins_then, key_then, marks_then, spends_trans}
use Rattle.agent_makes.proofs.making.concat.Goals as goal

pub returns-clause-spends : goal.returns-clause-spends
returns-clause-spends c = spends_trans c.args.agent.now c.renew_for_both.new.agent c.take_joined.new.agent c.renew_for_both.ensures.prepared.spends c.take_joined.ensures.spends

pub returns-clause-marked : goal.returns-clause-marked
returns-clause-marked c = marks_then c.args.agent.now c.renew_for_both.new.agent c.take_joined.new.agent c.renew_for_both.ensures.prepared c.take_joined.result c.take_joined.ensures.marked

pub returns-clause-joined : goal.returns-clause-joined
returns-clause-joined c us vs h k = let u = c.renew_for_both.ensures.prepared.spends.continues.known.units in
    let x = c.args.agent.now in let z = c.renew_for_both.new.agent in let y = c.take_joined.new.agent in let p = c.renew_for_both.ensures in let t = c.take_joined.ensures in
    joins_then x z y p.prepared c.args.a c.args.b us vs c.take_joined.result (p.renews us vs h k) (t.joined us vs (u c.args.a.id us h) (u c.args.b.id vs k))

pub returns-clause-units : goal.returns-clause-units
returns-clause-units c = let x = c.args.agent.now in let z = c.renew_for_both.new.agent in let y = c.take_joined.new.agent in let p = c.renew_for_both.ensures in let t = c.take_joined.ensures in
    join_told (view_by x) (view_by z) (view_by y) p.prepared.spends.continues.known c.args.a c.args.b c.take_joined.result t.units

pub take_joined-requires-clause-known : goal.take_joined-requires-clause-known
take_joined-requires-clause-known c = let x = c.args.agent.now in let z = c.renew_for_both.new.agent in let p = c.renew_for_both.ensures.prepared in
    (key_then x z p c.args.a.id c.requires.known.0, key_then x z p c.args.b.id c.requires.known.1)
