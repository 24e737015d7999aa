use Rattle.std.proofs.Common.{ap}
use Rattle.heap_rule.specs.declared.view.View.{View}
use Rattle.test_strings.proofs.Turning.{played_joined}
use Rattle.test_strings.proofs.on_text.OnText.join.Goals as goal

pub invariant_of-self : goal.invariant_of-self
invariant_of-self c = record {
  played = played_joined _ _ _ _ _ _ _ _ _ c.join.ensures.known c.join.ensures.known_of_other (ap (λ (v : View). v.agents) c.join.ensures.view) c.args.self.now.played c.args.other.played
      c.as_slice.ensures.value c.take_over.ensures;
}
