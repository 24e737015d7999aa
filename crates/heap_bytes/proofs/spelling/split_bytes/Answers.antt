use Rattle.std.proofs.Common.{arith}
use Rattle.heap_bytes.proofs.Reading.{some_left}
use Rattle.heap_bytes.proofs.Pieces.{copied_front}
use Rattle.heap_bytes.proofs.spelling.split_bytes.Goals as goal

pub returns : goal.returns
returns c = let some = some_left c.args.bytes.now c.is_empty.result c.is_empty.ensures c.if-is_empty.false in let room = c.requires in let m = c.min-count.ensures in let i = c.loop-i.invariant in
    (omega arith, omega arith, copied_front c.min-count.result c.args.bytes.now c.loop-i.room (omega arith) (omega arith) (λ k l. i.1 k (omega arith)))
