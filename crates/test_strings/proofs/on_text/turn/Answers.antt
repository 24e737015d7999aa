use Rattle.test_strings.proofs.Turning.{gone_on}
use Rattle.test_strings.proofs.on_text.turn.Goals as goal

pub returns : goal.returns
returns c = record { goes = gone_on _ _ c.wrong.ensures.goes }
