use Rattle.std.proofs.Common.{Option, subst}
use Rattle.heap_rule.specs.Maps.{HasKey}
use Rattle.heap_table.specs.Agents.{view_of}
use Rattle.heap_agents.specs.Shared.{SharedText, view_if}
use Rattle.heap_agents.proofs.Marks.{spends_on, joined_known}
use Rattle.agent_makes.proofs.taking.take_joined.Goals as goal

pub mark-requires-clause-known : goal.mark-requires-clause-known
mark-requires-clause-known c =
    joined_known (view_of c.in-Some.text.reader.agent) (view_of c.concat-joined.new.text.reader.agent) c.args.a.id c.args.b.id c.in_ok-s.s.id
    (subst (λ (t : Option SharedText). HasKey (view_if t).units c.args.a.id × HasKey (view_if t).units c.args.b.id) c.in-Some.is c.requires.known) c.in_ok-s.ensures.units

pub returns-in_err-s-clause-spends : goal.returns-in_err-s-clause-spends
returns-in_err-s-clause-spends c = let call = c.concat-joined in
    spends_on c.args.agent.now c.in-Some.text call.new.text c.in-Some.is c.requires.held call.ensures.kept call.ensures.continues call.new.self call.ensures.reserve

pub mark-requires-clause-held : goal.mark-requires-clause-held
mark-requires-clause-held c = let call = c.concat-joined in
    (spends_on c.args.agent.now c.in-Some.text call.new.text c.in-Some.is c.requires.held call.ensures.kept call.ensures.continues call.new.self call.ensures.reserve).held
