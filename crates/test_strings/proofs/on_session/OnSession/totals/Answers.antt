use Rattle.test_strings.proofs.Going.{goes_total, played_on}
use Rattle.test_strings.proofs.on_session.OnSession.totals.Goals as goal

pub returns : goal.returns
returns c = record { goes = goes_total _ _ c.totals-ids.ensures.state }

pub invariant_of-self : goal.invariant_of-self
invariant_of-self c = record { played = played_on _ _ _ _ _ _ (goes_total _ _ c.totals-ids.ensures.state) c.args.self.now.played }
