use Rattle.std.proofs.Common.{arith}
use Rattle.heap_export.proofs.SmallUnits.{read_at}
use Rattle.heap_export.proofs.runs.read_block.Goals as goal

pub returns-clause-units : goal.returns-clause-units
returns-clause-units g c us h k l = read_at us c.read_in.new.into _ c.args.i _ k (c.read_in.ensures.units us h) (omega arith) (omega arith)
