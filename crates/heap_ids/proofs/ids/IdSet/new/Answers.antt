use Rattle.std.proofs.Common.{arith, ◌+◌, ◌/◌}
use Rattle.heap_ids.specs.Sets.{Covers, IsIn}
use Rattle.heap_ids.proofs.Bits.{none}
use Rattle.heap_ids.proofs.ids.IdSet.new.Goals as goal

pub returns-clause-empty : goal.returns-clause-empty
unfolding IsIn
returns-clause-empty c = none c.in_ok-words.words.items (c.args.bound / 64 + 1) (c.in_ok-words.ensures.items_if_clones_equal (λ y e. e))

pub returns-clause-room : goal.returns-clause-room
unfolding Covers
returns-clause-room c = omega (arith, c.in_ok-words.ensures.len)
