use Rattle.std.proofs.Common.{arith}
use Rattle.heap_read.proofs.ShiftedLanes.{over_none, over_some}
use Rattle.heap_read.proofs.shifting.has_wide_lane.Goals as goal

pub returns-clause-some : goal.returns-clause-some
returns-clause-some c is small = let e = over_none c.args.word c.ranges.word.fits small in grind (arith, e, is)

pub returns-clause-none : goal.returns-clause-none
returns-clause-none c k l m = let e = over_some c.args.word k l m in grind (arith, e)
