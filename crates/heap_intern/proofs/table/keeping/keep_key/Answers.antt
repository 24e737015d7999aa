use Rattle.std.proofs.Common.{arith}
use Rattle.heap_intern.proofs.KeptKeys.{keys_with}
use Rattle.heap_intern.proofs.table.keeping.keep_key.Goals as goal

pub returns-clause-right : goal.returns-clause-right
returns-clause-right c v h seat = keys_with v c.args.keys.now c.place_of-place.result c.new.result c.args.units.now c.args.seat (let less = c.if-place-keys.false in omega arith) c.new.ensures h seat
