use Rattle.std.proofs.Common.{◌+◌, ◌-◌, ◌<◌, ◌∙◌, ◌++◌, ℕ, List, ap, drop, length, sym, take, append_assoc, arith}
use Rattle.std.specs.Str.{chars}
use Rattle.js_units.specs.Text.{utf16_of}
use Rattle.heap_bytes.specs.Points.{utf16}
use Rattle.heap_bytes.proofs.AsciiRuns.{behind_run, no_longer, run_put}
use Rattle.heap_bytes.proofs.Reading.{read_rest, shorter_by}
use Rattle.heap_bytes.proofs.spelling.put_points.Goals as goal

pub returns-then-room-count-lt2-clause-read : goal.returns-then-room-count-lt2-clause-read
returns-then-room-count-lt2-clause-read c = let e = c.put_ascii-run.ensures in behind_run c.loop-room.rest.now c.put_ascii-run.result e.within.0 e.ascii c.loop-room.invariant.read

pub returns-then-room-count-lt2-clause-units : goal.returns-then-room-count-lt2-clause-units
returns-then-room-count-lt2-clause-units c = let e = c.put_ascii-run.ensures in let run = c.put_ascii-run.result in let i = c.loop-room.invariant in
    i.units ∙ run_put c.loop-room.rest.now run e.within.0 e.ascii i.read (take c.loop-room.count c.loop-room.room) (take (c.loop-room.count + run) c.put_ascii-run.new.room) e.units

pub loop-room-smaller : goal.loop-room-smaller
loop-room-smaller c = let p = c.in-Some in let rest = c.loop-room.rest.now in let run = c.put_ascii-run.result in
    let less = shorter_by p.point (take (length rest - run) (drop run rest)) p.after.now p.ensures.1 in let k : length p.after.now < length rest = omega (arith, less, no_longer run rest) in k

pub loop-room-preserved : goal.loop-room-preserved
loop-room-preserved c = let p = c.in-Some in let i = c.loop-room.invariant in let e = c.put_point-count.ensures in
    let f = c.put_ascii-run.ensures in let run = c.put_ascii-run.result in let rest = c.loop-room.rest.now in
    let behind = take (length rest - run) (drop run rest) in let at = c.loop-room.count + run in let room = c.put_ascii-run.new.room in
    let k = read_rest p.point p.after.now behind p.ensures.0 p.ensures.1 (behind_run rest run f.within.0 f.ascii i.read) in let full = c.if-room-count-lt2.false in let within = f.within.1 in record {
      more = omega (arith, e.more.0, i.more);
      most = omega (arith, e.more.1, within, full, c.put_point-count.auto.room);
      read = k.0;
      units = i.units ∙ (run_put rest run f.within.0 f.ascii i.read (take c.loop-room.count c.loop-room.room) (take at room) f.units
          ∙ (ap (λ (cs : List ℕ). take at room ++ utf16 cs) k.1 ∙ (sym (append_assoc (take at room) (utf16_of p.point) (utf16 (chars p.after.now)))
          ∙ ap (λ (xs : List ℕ). xs ++ utf16 (chars p.after.now)) (sym e.units))));
    }

pub returns-in-None-clause-read : goal.returns-in-None-clause-read
returns-in-None-clause-read c = let e = c.put_ascii-run.ensures in behind_run c.loop-room.rest.now c.put_ascii-run.result e.within.0 e.ascii c.loop-room.invariant.read

pub returns-in-None-clause-units : goal.returns-in-None-clause-units
returns-in-None-clause-units c = let e = c.put_ascii-run.ensures in let run = c.put_ascii-run.result in let i = c.loop-room.invariant in
    i.units ∙ run_put c.loop-room.rest.now run e.within.0 e.ascii i.read (take c.loop-room.count c.loop-room.room) (take (c.loop-room.count + run) c.put_ascii-run.new.room) e.units
