use Rattle.std.proofs.Common.{sym, arith}
use Rattle.heap_bytes.proofs.WidePoints.{none_high}
use Rattle.heap_bytes.proofs.spelling.has_high.Goals as goal

pub returns : goal.returns
returns c = let test = c.loop-byte-test.false in sym (none_high c.args.bytes.now (λ q l. c.loop-byte.invariant q (omega arith)))
