use Rattle.std.proofs.Common.{◌∙◌, ap}
use Rattle.heap_table.specs.Agents.{view_of}
use Rattle.test_strings.proofs.Going.{played_there}
use Rattle.test_strings.proofs.on_session.OnSession.into_text.Goals as goal

pub new-text-requires-clause-belongs : goal.new-text-requires-clause-belongs
new-text-requires-clause-belongs c = c.into_agent.ensures.belongs c.args.self.heap.now c.args.self.played.of

pub of_strings-requires : goal.of_strings-requires
of_strings-requires c = played_there _ _ _ _ _ _ _ _ (ap view_of c.new-text.ensures.agent ∙ c.into_agent.ensures.view) c.args.self.played
