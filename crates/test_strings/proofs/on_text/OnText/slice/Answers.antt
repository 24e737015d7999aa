use Rattle.std.proofs.Common.{subst, Result}
use Rattle.std.specs.Prelude.{IfOk}
use Rattle.heap_rule.specs.Maps.{HasKey}
use Rattle.heap_read.specs.declared.string.JsStr.{JsStr}
use Rattle.heap_text.specs.declared.faults.TextFull.{TextFull}
use Rattle.test_strings.proofs.Turning.{played_put}
use Rattle.test_strings.proofs.on_text.OnText.slice.Goals as goal

pub invariant_of-self : goal.invariant_of-self
invariant_of-self c = record {
  played = played_put _ _ _ c.args.self.now.made.items _ c.in-Ok.t.id c.cut.ensures.goes.view c.args.self.now.played c.put.ensures.some
      (subst (λ (r : Result JsStr TextFull). IfOk r (λ t. HasKey c.cut.new.text.reader.agent.seat.me.0.units t.id)) c.in-Ok.is c.in-Some.ensures.known);
}
