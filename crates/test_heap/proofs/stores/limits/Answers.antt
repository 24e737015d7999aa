use Rattle.test_heap.proofs.Sessions.{is_of}
use Rattle.test_heap.proofs.stores.limits.Goals as goal

pub new-again-requires : goal.new-again-requires
new-again-requires c = record {
  belongs = c.into_agent-agent.ensures.belongs c.in-Ok.heap (is_of c.in-Ok.agent c.in-Ok.heap _ _ c.new-session.ensures.state c.in-Ok.ensures.belongs.1);
}
