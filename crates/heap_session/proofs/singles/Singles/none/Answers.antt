use Rattle.std.proofs.Common.{replicate}
use Rattle.heap_session.proofs.OneUnit.{singles_none, zeros}
use Rattle.heap_session.proofs.singles.Singles.none.Goals as goal

pub returns : goal.returns
returns c v = singles_none v (replicate 256 0) (zeros 256)
