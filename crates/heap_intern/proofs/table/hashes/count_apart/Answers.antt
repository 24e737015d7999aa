use Rattle.std.proofs.Common.{ℕ, ◌+◌, ◌<◌, arith}
use Rattle.heap_intern.proofs.Hashes.{apart_both}
use Rattle.heap_intern.proofs.table.hashes.count_apart.Goals as goal

pub returns-clause-apart : goal.returns-clause-apart
returns-clause-apart c i l = let from : ℕ = c.args.from in let m : ℕ = c.count_blocks-blocks.result in let k : ℕ = c.count_singly-singles.result in let s : i < m + k = l in
    apart_both c.args.hashes.now from (from + m) k c.args.mark (omega arith) (λ j below. c.count_blocks-blocks.ensures.apart j (omega arith)) c.count_singly-singles.ensures.apart i (omega arith)
