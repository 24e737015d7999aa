use Rattle.std.proofs.Common.{ℕ, ◌/◌, ◌<◌, length, arith}
use Rattle.std.proofs.Math.ListN.{length-set}
use Rattle.std.proofs.lemmas.List.{get_or_read_under}
use Rattle.heap_ids.specs.Sets.{Covers, IsIn}
use Rattle.heap_ids.proofs.Bits.{kept, only, there}
use Rattle.heap_ids.proofs.ids.IdSet.add.Goals as goal

pub returns-then-place-len-clause-room : goal.returns-then-place-len-clause-room
unfolding Covers
returns-then-place-len-clause-room c n h = omega (arith, h, length-set {A = ℕ})

pub returns-then-place-len-clause-kept : goal.returns-then-place-len-clause-kept
unfolding IsIn
returns-then-place-len-clause-kept c i h = let ws = c.args.self.now.words.items in let w = c.index_mut.result.now in let low : c.args.id / 64 < length ws = omega arith in
    kept ws c.args.id w low (get_or_read_under ws (c.args.id / 64) c.len.result w 0 c.index_mut.ensures.value c.if-place-len.true (omega arith)) i h

pub returns-then-place-len-clause-only : goal.returns-then-place-len-clause-only
unfolding IsIn
returns-then-place-len-clause-only c i h = let ws = c.args.self.now.words.items in let w = c.index_mut.result.now in let low : c.args.id / 64 < length ws = omega arith in
    only ws c.args.id w low (get_or_read_under ws (c.args.id / 64) c.len.result w 0 c.index_mut.ensures.value c.if-place-len.true (omega arith)) i h

pub returns-then-place-len-clause-there : goal.returns-then-place-len-clause-there
unfolding IsIn
returns-then-place-len-clause-there c n h below = let ws = c.args.self.now.words.items in let w = c.index_mut.result.now in let low : c.args.id / 64 < length ws = omega arith in
    there ws c.args.id w low (get_or_read_under ws (c.args.id / 64) c.len.result w 0 c.index_mut.ensures.value c.if-place-len.true (omega arith))

pub returns-else-place-len-clause-there : goal.returns-else-place-len-clause-there
unfolding IsIn Covers
returns-else-place-len-clause-there c n h low = absurd (omega (arith, h, low))
