use Rattle.std.proofs.Common.{sym}
use Rattle.heap_export.proofs.Decimals.{index_is}
use Rattle.heap_export.proofs.index.index_of_digits.Goals as goal

pub returns : goal.returns
returns c = index_is c.args.units.now c.parsed.result (sym c.parsed.ensures)
