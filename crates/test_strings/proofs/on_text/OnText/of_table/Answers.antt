use Rattle.std.proofs.Common.{ℕ, subst, Result}
use Rattle.std.specs.Prelude.{IfOk}
use Rattle.heap_rule.specs.Maps.{HasKey}
use Rattle.heap_intern.specs.declared.table.faults.TableFull.{TableFull}
use Rattle.test_strings.proofs.Turning.{played_put}
use Rattle.test_strings.proofs.on_text.OnText.of_table.Goals as goal

pub invariant_of-self : goal.invariant_of-self
invariant_of-self c = record {
  played = played_put _ _ _ c.args.self.now.made.items _ c.in-Ok.id c.of_table.ensures.goes.view c.args.self.now.played c.put.ensures.some
      (subst (λ (r : Result ℕ TableFull). IfOk r (λ t. HasKey c.of_table.new.text.reader.agent.seat.me.0.units t)) c.in-Ok.is c.in-Some.ensures.known);
}
