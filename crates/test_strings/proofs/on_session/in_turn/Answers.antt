use Rattle.test_strings.proofs.Going.{goes_trans}
use Rattle.test_strings.proofs.on_session.in_turn.Goals as goal

pub returns-in-Some-line_of_two : goal.returns-in-Some-line_of_two
returns-in-Some-line_of_two c = record {
  left = goes_trans _ _ _ c.loop-line.invariant.left c.line_of_two.ensures.left;
  right = goes_trans _ _ _ c.loop-line.invariant.right c.line_of_two.ensures.right;
}

pub loop-line-preserved : goal.loop-line-preserved
loop-line-preserved c = record { left = goes_trans _ _ _ c.loop-line.invariant.left c.line_of_two.ensures.left; right = goes_trans _ _ _ c.loop-line.invariant.right c.line_of_two.ensures.right }
