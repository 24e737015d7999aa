use Rattle.heap_read.proofs.LanesAtOnce.{wide_packed}
use Rattle.heap_read.proofs.packing.wide_word.Goals as goal

pub returns : goal.returns
returns c k l = wide_packed c.args.units.now c.args.at k c.requires c.type_inv.units l
