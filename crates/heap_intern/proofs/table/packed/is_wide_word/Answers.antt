use Rattle.std.proofs.Common.{refl, arith}
use Rattle.std.specs.Prelude.{true}
use mir.Syntax.{w16}
use Rattle.js_units.proofs.LaneMarks.{pairs}
use Rattle.heap_read.proofs.WordLanes.{pair_lane}
use Rattle.heap_intern.proofs.Packed.{mask_tells}
use Rattle.heap_intern.proofs.table.packed.is_wide_word.Goals as goal

pub returns : goal.returns
returns c = mask_tells w16 true c.args.word c.args.units.now (pairs c.args.word) c.args.at 4 refl (omega arith) c.requires (λ k l. pair_lane c.args.word k c.ranges.word.fits l)
