use Rattle.std.proofs.Common.{◌^◌, ◌∷◌, [], refl, arith}
use Rattle.std.specs.Prelude.{false}
use Rattle.std.specs.Simd.Lanes.{digits_l, number_l}
use mir.Syntax.{w16}
use Rattle.js_units.proofs.LaneMarks.{byte_lane}
use Rattle.heap_intern.proofs.Packed.{mask_tells}
use Rattle.heap_intern.proofs.table.packed.is_narrow_word.Goals as goal

pub returns : goal.returns
returns c = mask_tells w16 false c.args.word c.args.units.now (digits_l 256 8 (number_l (2 ^ 64) (c.args.word ∷ []))) c.args.at 8 refl (omega arith) c.requires (λ k l. byte_lane c.args.word k c.ranges.word.fits l)
