use Rattle.heap_read.proofs.ShiftedLanes.{widened_holds}
use Rattle.heap_read.proofs.shifting.widened.Goals as goal

pub returns : goal.returns
returns c count unit l h = widened_holds c.args.word count unit c.requires l h
