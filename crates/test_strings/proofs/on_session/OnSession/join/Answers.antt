use Rattle.test_strings.proofs.Going.{played_joined}
use Rattle.test_strings.proofs.on_session.OnSession.join.Goals as goal

pub invariant_of-self : goal.invariant_of-self
invariant_of-self c = record {
  played = played_joined _ _ _ _ _ _ _ _ _ _ _ _ _ c.requires.may c.join.ensures.joined c.requires.all
      c.requires.none_seen c.args.self.now.played c.args.other.played c.as_slice.ensures.value c.take_over.ensures;
}
