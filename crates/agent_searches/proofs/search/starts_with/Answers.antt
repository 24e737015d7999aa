use Rattle.std.proofs.Common.{Option, subst}
use Rattle.heap_notes.specs.Noted.{AreNoted}
use Rattle.heap_agents.specs.Shared.{SharedText, view_if}
use Rattle.agent_searches.proofs.Searched.{searched}
use Rattle.agent_searches.proofs.search.starts_with.Goals as goal

pub invariant_of-store : goal.invariant_of-store
invariant_of-store c = record { noted = subst (λ (o : Option SharedText). AreNoted (view_if o) c.args.agent.now.seats) c.in-Some.is c.requires.held.noted }

pub returns-clause-searched : goal.returns-clause-searched
returns-clause-searched c = let left = c.stands_at.new.store in
    searched c.args.agent.now c.in-Some.text left.text.now _ _ left.seats.now c.in-Some.is c.requires.held c.stands_at.ensures.uses left.noted
