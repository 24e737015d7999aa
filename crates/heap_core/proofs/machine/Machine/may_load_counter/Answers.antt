use Rattle.heap_core.proofs.StateLemmas.{some_tells}
use Rattle.heap_core.proofs.machine.Machine.may_load_counter.Goals as goal

pub returns : goal.returns
returns c = some_tells c.args.self.now.views.items c.args.view c.live.result c.is_some.result c.is_some.ensures c.live.ensures.some c.live.ensures.none
