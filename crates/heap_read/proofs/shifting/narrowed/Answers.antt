use Rattle.heap_read.proofs.ShiftedLanes.{narrowed_holds}
use Rattle.heap_read.proofs.shifting.narrowed.Goals as goal

pub returns : goal.returns
returns c count unit l f h = narrowed_holds c.args.word count unit l f h
