use Rattle.test_strings.proofs.Turning.{played_put}
use Rattle.test_strings.proofs.on_text.OnText.units.Goals as goal

pub invariant_of-self : goal.invariant_of-self
invariant_of-self c = record { played = played_put _ _ _ c.args.self.now.made.items _ c.in-Ok.s.id c.flat.ensures.goes.view c.args.self.now.played c.put.ensures.some c.in-Ok.ensures.known }
