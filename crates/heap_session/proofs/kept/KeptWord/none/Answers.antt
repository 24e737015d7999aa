use Rattle.std.proofs.Common.{[], arith}
use Rattle.heap_session.proofs.kept.KeptWord.none.Goals as goal

pub returns : goal.returns
returns c = let h = (c.none.ensures []).within in omega arith

pub invariant_of-result : goal.invariant_of-result
invariant_of-result c = record { lanes = (c.none.ensures []).lanes }
