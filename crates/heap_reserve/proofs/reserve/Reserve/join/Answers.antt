use Rattle.std.proofs.Common.{refl}
use Rattle.heap_reserve.proofs.reserve.Reserve.join.Goals as goal

pub returns-then-n-lt-MIN_CONS-clause-short : goal.returns-then-n-lt-MIN_CONS-clause-short
returns-then-n-lt-MIN_CONS-clause-short g c l us vs h k = (c.copy_both.result, refl, c.copy_both.ensures.made us vs h k)
