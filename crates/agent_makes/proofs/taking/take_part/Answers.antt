use Rattle.std.proofs.Common.{Option, subst}
use Rattle.heap_rule.specs.Maps.{Has}
use Rattle.heap_rule.proofs.MapLemmas.{key_of}
use Rattle.heap_table.specs.Agents.{view_of}
use Rattle.heap_agents.specs.Shared.{SharedText, view_if}
use Rattle.heap_agents.proofs.Marks.{spends_on}
use Rattle.agent_makes.proofs.taking.take_part.Goals as goal

pub mark-requires-clause-known : goal.mark-requires-clause-known
mark-requires-clause-known c = let u = c.requires.within in
    key_of (view_of c.slice-cut.new.text.reader.agent).units c.in_ok-t.t.id _
    (c.in_ok-t.ensures.units u.0 (subst (λ (t : Option SharedText). Has (view_if t).units c.args.s.id u.0) c.in-Some.is u.1))

pub returns-in_err-t-clause-spends : goal.returns-in_err-t-clause-spends
returns-in_err-t-clause-spends c = let call = c.slice-cut in
    spends_on c.args.agent.now c.in-Some.text call.new.text c.in-Some.is c.requires.held call.ensures.kept call.ensures.continues call.new.self call.ensures.reserve

pub mark-requires-clause-held : goal.mark-requires-clause-held
mark-requires-clause-held c = let call = c.slice-cut in
    (spends_on c.args.agent.now c.in-Some.text call.new.text c.in-Some.is c.requires.held call.ensures.kept call.ensures.continues call.new.self call.ensures.reserve).held
