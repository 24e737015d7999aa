use Rattle.std.proofs.Common.{arith}
use Rattle.heap_ids.specs.Sets.{Covers, IsIn}
use Rattle.heap_ids.proofs.Bits.{has_word, laid_kept, laid_only, laid_there}
use Rattle.heap_ids.proofs.ids.IdSet.add_all.Goals as goal

pub returns-clause-room : goal.returns-clause-room
unfolding Covers
returns-clause-room c n h = let e = c.loop-i.invariant.long in omega (arith, h, e)

pub returns-clause-kept : goal.returns-clause-kept
unfolding IsIn
returns-clause-kept c i h = let inv = c.loop-i.invariant in laid_kept _ _ _ c.loop-i.i inv.laid inv.rest i h

pub returns-clause-only : goal.returns-clause-only
unfolding IsIn
returns-clause-only c i h = let inv = c.loop-i.invariant in laid_only _ _ _ c.loop-i.i inv.laid inv.rest i h

pub returns-clause-there : goal.returns-clause-there
unfolding IsIn Covers
returns-clause-there c n i room low h = let inv = c.loop-i.invariant in let word = has_word _ i h in laid_there _ _ _ c.loop-i.i inv.laid inv.rest i (omega arith) h
