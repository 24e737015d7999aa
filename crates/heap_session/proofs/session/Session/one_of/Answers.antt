use Rattle.std.proofs.Common.{inl}
use Rattle.heap_read.proofs.Loaded.{reads_refl}
use Rattle.heap_session.proofs.session.Session.one_of.Goals as goal

pub returns-in-Some-clause-made : goal.returns-in-Some-clause-made
returns-in-Some-clause-made g c = inl (reads_refl c.args.self.now.text.reader.agent.seat.me.0)
