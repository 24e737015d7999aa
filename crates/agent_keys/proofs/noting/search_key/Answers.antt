use Rattle.std.proofs.Common.{Option, subst}
use Rattle.heap_notes.specs.Noted.{AreNoted}
use Rattle.heap_agents.specs.Shared.{SharedText, view_if}
use Rattle.agent_keys.proofs.noting.search_key.Goals as goal

pub search_in-requires-clause-noted : goal.search_in-requires-clause-noted
search_in-requires-clause-noted c = subst (λ (o : Option SharedText). AreNoted (view_if o) c.args.seats.now) c.in-Some.is c.requires.noted
