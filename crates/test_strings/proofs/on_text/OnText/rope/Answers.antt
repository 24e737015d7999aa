use Rattle.test_strings.proofs.Turning.{moves_trans}
use Rattle.test_strings.proofs.on_text.OnText.rope.Goals as goal

pub returns-in_err-all : goal.returns-in_err-all
returns-in_err-all c = record { goes = moves_trans _ _ _ c.loop-k.invariant c.with_bit.ensures.goes }

pub returns-in_err-concat : goal.returns-in_err-concat
returns-in_err-concat c = record { goes = moves_trans _ _ _ (moves_trans _ _ _ c.loop-k.invariant c.with_bit.ensures.goes) c.concat.ensures.goes }

pub loop-k-preserved : goal.loop-k-preserved
loop-k-preserved c = moves_trans _ _ _ (moves_trans _ _ _ c.loop-k.invariant c.with_bit.ensures.goes) c.concat.ensures.goes
