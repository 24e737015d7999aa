use Rattle.std.proofs.Common.{◌∙◌, ◌∷◌, [], ◌^◌, arith}
use Rattle.std.proofs.lemmas.Simd.{get_or-put_chunk_at, get_or-put_chunk_below}
use Rattle.std.specs.Simd.Lanes.{digits_l, number_l}
use Rattle.js_units.proofs.LaneMarks.{byte_lane}
use Rattle.heap_read.proofs.spans.put_narrow.Goals as goal

pub returns-clause-before : goal.returns-clause-before
returns-clause-before c k l = get_or-put_chunk_below c.args.at c.args.into.now (digits_l 256 8 (number_l (2 ^ 64) (c.args.word ∷ []))) k 0 l

pub returns-clause-inside : goal.returns-clause-inside
returns-clause-inside c k l = get_or-put_chunk_at c.args.at c.args.into.now (digits_l 256 8 (number_l (2 ^ 64) (c.args.word ∷ []))) k 0 l
    (omega (arith, c.requires)) ∙ byte_lane c.args.word k c.ranges.word.fits l
