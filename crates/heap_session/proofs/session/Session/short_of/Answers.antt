use Rattle.std.proofs.Common.{inl}
use Rattle.heap_session.proofs.Owning.{made_after}
use Rattle.heap_session.proofs.session.Session.short_of.Goals as goal

pub returns-in-Some-clause-made : goal.returns-in-Some-clause-made
returns-in-Some-clause-made g c = inl c.recent_of.ensures.reads

pub returns-in-Ok-clause-made : goal.returns-in-Ok-clause-made
returns-in-Ok-clause-made g c = made_after c.args.self.now.text.reader.agent.seat.me.0 c.recent_of.new.self.text.reader.agent.seat.me.0
    c.flat_of.new.self.text.reader.agent.seat.me.0 c.args.units.now c.recent_of.ensures.reads c.in-Ok.ensures.made
