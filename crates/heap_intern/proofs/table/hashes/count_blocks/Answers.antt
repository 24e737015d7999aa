use Rattle.std.proofs.Common.{ℕ, ◌-◌, ◌≤◌, arith}
use Rattle.heap_intern.proofs.Hashes.{apart_both}
use Rattle.heap_intern.proofs.table.hashes.count_blocks.Goals as goal

pub loop-at-preserved : goal.loop-at-preserved
loop-at-preserved c = let at : ℕ = c.loop-at.at in let h = c.loop-at.invariant in let t : 16 ≤ c.args.to - at = c.loop-at-test.true in
    (omega (arith, h.0), omega (arith, h.1), apart_both c.args.hashes.now c.args.from at 16 c.args.mark h.0 h.2 (c.is_block_apart.ensures c.if-is_block_apart.true))
