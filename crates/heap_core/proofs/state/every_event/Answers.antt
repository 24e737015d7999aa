use Rattle.heap_core.proofs.EventSteps.{events_are_steps}
use Rattle.heap_core.proofs.state.every_event.Goals as goal

pub returns : goal.returns
returns c = events_are_steps
