use Rattle.std.proofs.Common.{◌∙◌, subst}
use Rattle.heap_bytes.specs.Spellings.{IsReadable}
use Rattle.heap_bytes.proofs.WidePoints.{high_points}
use Rattle.heap_bytes.proofs.spelling.Spelling.is_wide.Goals as goal

pub returns-in-Latin1 : goal.returns-in-Latin1
returns-in-Latin1 c = rw c.in-Latin1.is c.is_wide_byte.ensures

pub returns-in-Points : goal.returns-in-Points
returns-in-Points c = rw c.in-Points.is (c.has_high.ensures ∙ high_points c.in-Points.bytes.now (subst IsReadable c.in-Points.is c.requires).0)
