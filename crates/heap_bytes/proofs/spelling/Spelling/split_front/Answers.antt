use Rattle.std.proofs.Common.{◌∙◌, ap, subst, arith}
use Rattle.std.specs.Str.{chars}
use Rattle.heap_bytes.specs.Points.{utf16}
use Rattle.heap_bytes.specs.Spellings.{IsReadable, spelling_units}
use Rattle.heap_bytes.proofs.Pieces.{count_left}
use Rattle.heap_bytes.proofs.spelling.Spelling.split_front.Goals as goal

pub returns-in-Some : goal.returns-in-Some
returns-in-Some c = let e = c.in-Some.ensures in record { some = e.0; most = e.1; split = ap spelling_units c.in-Latin1.is ∙ e.2; read = tt }

pub returns-in-None : goal.returns-in-None
returns-in-None c = ap spelling_units c.in-Latin1.is ∙ c.in-None.ensures

pub units_behind-requires : goal.units_behind-requires
units_behind-requires c = let p = c.in-Some-split_points in let e = p.ensures in let h = subst IsReadable c.in-Points.is c.requires.read in
    let n = count_left c.split_points.new.room (utf16 (chars c.in-Points.bytes.now)) (utf16 (chars p.rest.now)) p.count e.1 e.3 in omega (arith, n, h.1)

pub returns-in-Some-split_points : goal.returns-in-Some-split_points
returns-in-Some-split_points c = let p = c.in-Some-split_points in let e = p.ensures in let h = subst IsReadable c.in-Points.is c.requires.read in
    let n = count_left c.split_points.new.room (utf16 (chars c.in-Points.bytes.now)) (utf16 (chars p.rest.now)) p.count e.1 e.3 in
    record { some = e.0; most = e.1; split = ap spelling_units c.in-Points.is ∙ e.3; read = (e.2, omega (arith, n, h.1, c.units_behind.ensures)) }

pub returns-in-None-split_points : goal.returns-in-None-split_points
returns-in-None-split_points c = ap spelling_units c.in-Points.is ∙ c.in-None-split_points.ensures
