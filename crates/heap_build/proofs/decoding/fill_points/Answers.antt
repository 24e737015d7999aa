use Rattle.std.proofs.Common.{◌++◌, ◌<◌, ◌∙◌, ℕ, List, length, ap, sym, arith, append_assoc, append-nil, length-append}
use Rattle.std.specs.Str.{chars}
use Rattle.js_units.specs.Text.{utf16_of}
use Rattle.heap_bytes.specs.Points.{utf16}
use Rattle.heap_bytes.proofs.Reading.{read_end, read_rest, shorter_by}
use Rattle.heap_build.proofs.decoding.fill_points.Goals as goal

pub fill_point-requires-clause-room : goal.fill_point-requires-clause-room
fill_point-requires-clause-room c = let p = c.in-Some in let k = read_rest p.point p.after.now c.loop-point.rest.now p.ensures.0 p.ensures.1 c.loop-point.invariant.read in
    omega (arith, ap (λ (cs : List ℕ). length (utf16 cs)) k.1, length-append (utf16_of p.point) (utf16 (chars p.after.now)), c.loop-point.invariant.room)

pub loop-point-smaller : goal.loop-point-smaller
loop-point-smaller c = let p = c.in-Some in
    let k : length p.after.now < length c.loop-point.rest.now = shorter_by p.point c.loop-point.rest.now p.after.now p.ensures.1 in k

pub loop-point-preserved : goal.loop-point-preserved
loop-point-preserved c = let p = c.in-Some in let inv = c.loop-point.invariant in let old = c.loop-point.units in let new = c.fill_point.new.units in
    let k = read_rest p.point p.after.now c.loop-point.rest.now p.ensures.0 p.ensures.1 inv.read in let added = c.fill_point.ensures.added in record {
      read = k.0;
      added = ap (λ (xs : List ℕ). xs ++ utf16 (chars p.after.now)) added
          ∙ (append_assoc old.items (utf16_of p.point) (utf16 (chars p.after.now)) ∙ (ap (λ (cs : List ℕ). old.items ++ utf16 cs) (sym k.1) ∙ inv.added));
      room = omega (
        arith,
        new.ok.0,
        old.ok.0,
        ap length added,
        length-append old.items (utf16_of p.point),
        ap (λ (cs : List ℕ). length (utf16 cs)) k.1,
        length-append (utf16_of p.point) (utf16 (chars p.after.now)),
        inv.room,
        c.fill_point.ensures.room,
      );
      same = c.fill_point.ensures.room ∙ inv.same;
    }

pub returns-clause-added : goal.returns-clause-added
returns-clause-added c = let inv = c.loop-point.invariant in let items = c.loop-point.units.items in
    sym (append-nil items) ∙ (ap (λ (cs : List ℕ). items ++ utf16 cs) (sym (read_end c.loop-point.rest.now inv.read c.in_default.ensures)) ∙ inv.added)
