use Rattle.heap_session.specs.Sessions.{state_in}
use Rattle.test_strings.specs.Sessions.{GoesOn}
use Rattle.test_strings.proofs.on_session.in_turn.Given as goal

abbrev pub invariant-loop-line : goal.invariant-loop-line
invariant-loop-line l = record {
  left : GoesOn (state_in l.fn.left.session) (state_in l.left.session);
  right : GoesOn (state_in l.fn.right.session) (state_in l.right.session);
}
