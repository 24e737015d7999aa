use Rattle.test_strings.proofs.Turning.{moves_trans}
use Rattle.test_strings.proofs.on_text.OnText.grown.Goals as goal

pub returns-in_err-concat : goal.returns-in_err-concat
returns-in_err-concat c = record { goes = moves_trans _ _ _ c.loop-turn.invariant c.concat.ensures.goes }

pub loop-turn-preserved : goal.loop-turn-preserved
loop-turn-preserved c = moves_trans _ _ _ c.loop-turn.invariant c.concat.ensures.goes
