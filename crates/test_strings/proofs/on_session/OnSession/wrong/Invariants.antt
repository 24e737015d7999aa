use Rattle.heap_session.specs.Sessions.{state_in}
use Rattle.test_strings.specs.Sessions.{GoesOn}
use Rattle.test_strings.proofs.on_session.OnSession.wrong.Given as goal

abbrev pub invariant-loop-line : goal.invariant-loop-line
invariant-loop-line l = GoesOn (state_in l.fn.self.session) (state_in l.self.session)
