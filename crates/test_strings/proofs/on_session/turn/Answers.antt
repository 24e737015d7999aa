use Rattle.test_strings.proofs.Going.{gone_on}
use Rattle.test_strings.proofs.on_session.turn.Goals as goal

pub returns : goal.returns
returns c = record { goes = gone_on _ _ c.wrong.ensures.goes }
