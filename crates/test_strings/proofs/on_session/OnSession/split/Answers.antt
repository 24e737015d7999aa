use Rattle.test_strings.proofs.Going.{played_left, played_right}
use Rattle.test_strings.proofs.on_session.OnSession.split.Goals as goal

pub invariant_of-result : goal.invariant_of-result
invariant_of-result c = record { played = played_right _ _ _ _ _ _ _ _ _ c.split-session.ensures.right c.new-made.ensures.items c.as_slice.ensures.value c.take_over.ensures c.args.self.now.played }

pub invariant_of-self : goal.invariant_of-self
invariant_of-self c = record { played = played_left _ _ _ _ _ _ c.split-session.ensures.left c.args.self.now.played }
