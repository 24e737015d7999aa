use Rattle.std.proofs.Common.{rules}
use Rattle.js_units.proofs.Ascii.{ascii_next}
use Rattle.js_units.proofs.text.ascii_len.Goals as goal

pub loop-i-preserved : goal.loop-i-preserved
loop-i-preserved c = ascii_next c.args.units.now c.loop-i.i (search rules) (search rules) c.loop-i.invariant
