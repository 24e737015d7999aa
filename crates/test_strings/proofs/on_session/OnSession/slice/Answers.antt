use Rattle.std.proofs.Common.{subst, Result}
use Rattle.std.specs.Prelude.{IfOk}
use Rattle.heap_read.specs.declared.string.JsStr.{JsStr}
use Rattle.js_store.specs.declared.faults.StoreFault.{StoreFault}
use Rattle.js_store.specs.State.{IsKnown}
use Rattle.heap_session.specs.Sessions.{state_in}
use Rattle.test_strings.proofs.Going.{played_put}
use Rattle.test_strings.proofs.on_session.OnSession.slice.Goals as goal

pub invariant_of-self : goal.invariant_of-self
invariant_of-self c = record {
  played = played_put _ _ _ _ _ c.args.self.now.made.items _ c.in-Ok.t.id c.cut.ensures.goes c.args.self.now.played c.put.ensures.some
      (subst (λ (r : Result JsStr StoreFault). IfOk r (λ t. IsKnown (state_in c.cut.new.session) t.id)) c.in-Ok.is c.in-Some.ensures.known);
}
