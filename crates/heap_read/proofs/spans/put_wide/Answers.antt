use Rattle.std.proofs.Common.{◌∙◌, arith}
use Rattle.std.proofs.lemmas.Simd.{get_or-put_chunk_at, get_or-put_chunk_below}
use Rattle.js_units.proofs.LaneMarks.{pairs}
use Rattle.heap_read.proofs.WordLanes.{pair_lane}
use Rattle.heap_read.proofs.spans.put_wide.Goals as goal

pub returns-clause-before : goal.returns-clause-before
returns-clause-before c k l = get_or-put_chunk_below c.args.at c.args.into.now (pairs c.args.word) k 0 l

pub returns-clause-inside : goal.returns-clause-inside
returns-clause-inside c k l = get_or-put_chunk_at c.args.at c.args.into.now (pairs c.args.word) k 0 l (omega (arith, c.requires)) ∙ pair_lane c.args.word k c.ranges.word.fits l
