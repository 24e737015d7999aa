use Rattle.test_strings.proofs.Going.{goes_uses, played_on}
use Rattle.test_strings.proofs.on_session.OnSession.count.Goals as goal

pub returns : goal.returns
returns c = record { goes = goes_uses _ _ _ _ _ c.count_interned.ensures.uses }

pub invariant_of-self : goal.invariant_of-self
invariant_of-self c = record { played = played_on _ _ _ _ _ _ (goes_uses _ _ _ _ _ c.count_interned.ensures.uses) c.args.self.now.played }
