use Rattle.std.proofs.Common.{Option, Ok, Err, subst, sym}
use Rattle.heap_text.specs.Settling.{Settles}
use Rattle.heap_agents.specs.Held.{held_size, view_by}
use Rattle.heap_agents.specs.Shared.{SharedText, view_if}
use Rattle.heap_agents.proofs.Marks.{leaves_on}
use Rattle.agent_reads.proofs.Settled.{settles_on}
use Rattle.agent_reads.proofs.reading.settle.Goals as goal

pub returns-clause-settles : goal.returns-clause-settles
returns-clause-settles c =
    subst (λ (t : Option SharedText). Settles (view_by c.args.agent.now) (view_if t) (held_size c.args.agent.now) c.args.s.id (Ok tt)) (sym c.mark.ensures.text)
    (settles_on c.args.agent.now c.in-Some.text c.settle-answer.new.self c.in-Some.is c.args.s.id (Ok tt) c.in_ok-answer.ensures.settles)

pub returns-in_err-answer-clause-leaves : goal.returns-in_err-answer-clause-leaves
returns-in_err-answer-clause-leaves c = let call = c.settle-answer in
    leaves_on c.args.agent.now c.in-Some.text call.new.self c.in-Some.is c.requires.held call.ensures.kept call.ensures.continues call.ensures.settles.own

pub mark-requires-clause-held : goal.mark-requires-clause-held
mark-requires-clause-held c = let call = c.settle-answer in
    (leaves_on c.args.agent.now c.in-Some.text call.new.self c.in-Some.is c.requires.held call.ensures.kept call.ensures.continues call.ensures.settles.own).held
