use Rattle.std.proofs.Common.{ℕ, ◌-◌, ◌<◌, ◌≤◌, sym, arith}
use Rattle.heap_intern.proofs.Hashes.{wrap_none, wrap_over}
use Rattle.heap_intern.proofs.table.hashes.slot_at.Goals as goal

pub returns-then-rank-before_end : goal.returns-then-rank-before_end
returns-then-rank-before_end c = let start : ℕ = c.args.start in let rank : ℕ = c.args.rank in let slots : ℕ = c.args.slots in
    let t : rank < slots - start = c.if-rank-before_end.true in let small : start < slots = c.requires.start in sym (wrap_none start rank slots (omega arith))

pub returns : goal.returns
returns c = let start : ℕ = c.args.start in let rank : ℕ = c.args.rank in let slots : ℕ = c.args.slots in
    let t : slots - start ≤ rank = c.if-rank-before_end.false in let small : start < slots = c.requires.start in let within : rank < slots = c.requires.rank in
    sym (wrap_over start rank slots (rank - (slots - start)) (omega arith) (omega arith))
