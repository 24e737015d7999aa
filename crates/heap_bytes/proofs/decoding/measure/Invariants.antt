use Rattle.std.proofs.Common.{length}
use Rattle.heap_bytes.specs.Reading.{HasRead}
use Rattle.heap_bytes.proofs.decoding.measure.Given as goal

abbrev pub invariant-loop-rest : goal.invariant-loop-rest
invariant-loop-rest l = HasRead l.encoding l.bytes l.rest l.lead l.count

abbrev pub decreases-loop-rest : goal.decreases-loop-rest
decreases-loop-rest l = length l.rest
