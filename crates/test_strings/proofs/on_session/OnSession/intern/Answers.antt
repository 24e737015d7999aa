use Rattle.test_strings.proofs.Going.{played_put}
use Rattle.test_strings.proofs.on_session.OnSession.intern.Goals as goal

pub invariant_of-self : goal.invariant_of-self
invariant_of-self c = record { played = played_put _ _ _ _ _ c.args.self.now.made.items _ c.in-Ok.t.id c.interned.ensures.goes c.args.self.now.played c.put.ensures.some c.in-Ok.ensures.known }
