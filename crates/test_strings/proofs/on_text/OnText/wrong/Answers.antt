use Rattle.test_strings.proofs.Turning.{moves_trans}
use Rattle.test_strings.proofs.on_text.OnText.wrong.Goals as goal

pub returns-in-Some-wrong_line : goal.returns-in-Some-wrong_line
returns-in-Some-wrong_line c = record { goes = moves_trans _ _ _ c.loop-line.invariant c.wrong_line.ensures.goes }

pub loop-line-preserved : goal.loop-line-preserved
loop-line-preserved c = moves_trans _ _ _ c.loop-line.invariant c.wrong_line.ensures.goes
