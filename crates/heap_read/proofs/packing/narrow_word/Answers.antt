use Rattle.std.proofs.Common.{arith}
use Rattle.heap_read.proofs.LanesAtOnce.{bytes_fit, narrow_packed}
use Rattle.heap_read.proofs.packing.narrow_word.Goals as goal

pub overflow_cast-bytes : goal.overflow_cast-bytes
overflow_cast-bytes c = bytes_fit c.args.units.now c.args.at c.requires.room c.requires.fits

pub returns : goal.returns
returns c k l = narrow_packed c.args.units.now c.args.at k _ (λ x m. omega arith) c.requires.room c.requires.fits l
