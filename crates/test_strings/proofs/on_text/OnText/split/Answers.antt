use Rattle.std.proofs.Common.{ap, sym, subst, ◌∙◌}
use Rattle.heap_rule.specs.declared.view.View.{View}
use Rattle.heap_table.specs.Agents.{view_of}
use Rattle.test_strings.specs.Turns.{IsPlayed}
use Rattle.test_strings.proofs.Turning.{played_left, played_right, played_some}
use Rattle.test_strings.proofs.on_text.OnText.split.Goals as goal

pub invariant_of-result : goal.invariant_of-result
invariant_of-result c = record {
  played = subst (λ (v : View). IsPlayed v c.args.self.now.agents c.take_over.new.made.items) (sym (ap view_of c.new.ensures.agent ∙ c.split-agent.ensures.right))
      (played_right _ _ _ (played_some _ _ _ _ _ _ c.new-made.ensures.items c.as_slice.ensures.value c.take_over.ensures c.args.self.now.played));
}

pub invariant_of-self : goal.invariant_of-self
invariant_of-self c = record { played = subst (λ (v : View). IsPlayed v c.args.self.now.agents c.args.self.now.made.items) (sym c.split-agent.ensures.left) (played_left _ _ _ c.args.self.now.played) }
