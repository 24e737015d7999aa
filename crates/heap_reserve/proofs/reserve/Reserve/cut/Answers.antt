use Rattle.std.proofs.Common.{refl}
use Rattle.heap_reserve.proofs.reserve.Reserve.cut.Goals as goal

pub returns-then-n-lt-MIN_CONS-clause-short : goal.returns-then-n-lt-MIN_CONS-clause-short
returns-then-n-lt-MIN_CONS-clause-short g c l us h = (c.copy_part.result, refl, c.copy_part.ensures.made us h)
