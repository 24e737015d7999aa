use Rattle.std.proofs.Common.{arith}
use Rattle.heap_session.specs.Sound.{limit_high, limit_low}
use Rattle.heap_session.proofs.strings.SessionStrings.limit.Goals as goal

pub returns-clause-low : goal.returns-clause-low
returns-clause-low g c = let a = limit_low c.args.self.now.limit in let e = c.units.ensures in omega arith

pub returns-clause-high : goal.returns-clause-high
returns-clause-high g c = let a = limit_high c.args.self.now.limit in let e = c.units.ensures in omega arith
