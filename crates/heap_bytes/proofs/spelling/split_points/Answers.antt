use Rattle.std.proofs.Common.{◌∙◌, ◌++◌, ℕ, List, ap, sym, arith}
use Rattle.std.specs.Str.{chars}
use Rattle.heap_bytes.specs.Points.{utf16}
use Rattle.heap_bytes.proofs.Reading.{read_end, read_rest}
use Rattle.heap_bytes.proofs.spelling.split_points.Goals as goal

pub put_points-requires-clause-read : goal.put_points-requires-clause-read
put_points-requires-clause-read c = let p = c.in-Some in (read_rest p.point p.after.now c.args.bytes.now p.ensures.0 p.ensures.1 c.requires.read).0

pub returns-in-Some : goal.returns-in-Some
returns-in-Some c = let p = c.in-Some in let k = read_rest p.point p.after.now c.args.bytes.now p.ensures.0 p.ensures.1 c.requires.read in
    let e = c.put_points.ensures in let f = c.put_point-count.ensures in
    (omega (arith, e.more.0, f.more.0), e.more.1, e.read, ap utf16 k.1 ∙ (ap (λ (xs : List ℕ). xs ++ utf16 (chars p.after.now)) (sym f.units) ∙ e.units))

pub returns-in-None : goal.returns-in-None
returns-in-None c = ap utf16 (read_end c.args.bytes.now c.requires.read c.in-None.ensures)
