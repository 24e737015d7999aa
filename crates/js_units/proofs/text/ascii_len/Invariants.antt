use Rattle.std.proofs.Common.{◌<◌, take, All}
use Rattle.js_units.proofs.text.ascii_len.Given as goal

abbrev pub invariant-loop-i : goal.invariant-loop-i
invariant-loop-i l = All (λ u. u < 0x80) (take l.i l.units)
