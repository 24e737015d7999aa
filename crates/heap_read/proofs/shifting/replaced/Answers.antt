use Rattle.std.proofs.Common.{ℕ, ◌+◌, ◌-◌, ◌<◌, subst, sym}
use Rattle.heap_read.proofs.ShiftedLanes.{replaced_placed}
use Rattle.heap_read.proofs.shifting.replaced.Goals as goal

pub returns : goal.returns
returns c = let wide = c.args.wide in let low = c.args.low in let count = c.args.count in let before = c.lanes_at-before in let behind = c.lanes_at-behind in let upper = c.put_above-upper in
    replaced_placed wide c.args.word c.args.lanes_of before.result behind.result upper.result c.put_above.result low count c.requires.room
    before.ensures.each (λ q l. behind.ensures.each q (subst (λ (n : ℕ). q < n - (low + count)) (sym c.lanes.ensures) l))
    upper.ensures.below upper.ensures.above c.put_above.ensures.below c.put_above.ensures.above
