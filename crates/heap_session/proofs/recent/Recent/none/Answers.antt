use Rattle.std.proofs.Common.{replicate}
use Rattle.heap_session.proofs.OneUnit.{zeros}
use Rattle.heap_session.proofs.MadeLately.{recent_none}
use Rattle.heap_session.proofs.recent.Recent.none.Goals as goal

pub returns : goal.returns
returns c v = recent_none v (replicate 64 0) (zeros 64)
