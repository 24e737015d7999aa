use Rattle.std.proofs.Common.{sym, arith}
use Rattle.js_units.proofs.PackedWords.{none_wide}
use Rattle.js_units.proofs.packing.has_wide.Goals as goal

pub returns : goal.returns
returns c = let test = c.loop-unit-test.false in sym (none_wide c.args.units.now (λ q l. c.loop-unit.invariant q (omega arith)))
