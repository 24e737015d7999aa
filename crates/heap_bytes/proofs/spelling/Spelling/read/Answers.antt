use Rattle.std.proofs.Common.{false, refl, arith}
use Rattle.heap_bytes.proofs.AsciiRuns.{same_number}
use Rattle.heap_bytes.proofs.Reading.{most_units, reads_again}
use Rattle.heap_bytes.proofs.spelling.Spelling.read.Goals as goal

pub overflow_cast-result : goal.overflow_cast-result
overflow_cast-result c = let m = c.in-Ok.ensures in omega (arith, m.1, most_units c.args.encoding false c.args.bytes.now m.0, c.requires)

pub returns-then-count-bytes-clause-read : goal.returns-then-count-bytes-clause-read
returns-then-count-bytes-clause-read c = let m = c.in-Ok.ensures in (m.0, tt, same_number c.args.encoding c.args.bytes.now c.in-Ok.count m.0 m.1 c.if-count-bytes.true)

pub returns-else-count-bytes-clause-read : goal.returns-else-count-bytes-clause-read
returns-else-count-bytes-clause-read c = let m = c.in-Ok.ensures in (m.0, (reads_again c.args.encoding c.args.bytes.now m.0, m.1), refl)

pub returns-else-count-bytes-clause-most : goal.returns-else-count-bytes-clause-most
returns-else-count-bytes-clause-most c = most_units c.args.encoding false c.args.bytes.now c.in-Ok.ensures.0
