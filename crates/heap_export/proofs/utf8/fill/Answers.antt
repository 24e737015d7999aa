use Rattle.std.proofs.Common.{◌+◌, ◌-◌, ◌<◌, ◌≤◌, ap, sym, ◌∙◌, ℕ, length, subst, arith}
use Rattle.std.specs.Char.{len_utf8}
use Rattle.heap_table.specs.Agents.{view_of}
use Rattle.heap_read.proofs.WindowLemmas.{window_short}
use Rattle.heap_export.proofs.AsciiRuns.{room_run, shown_ascii}
use Rattle.heap_export.proofs.Filling.{fill_next, fill_room, part_len, run_next, run_room}
use Rattle.heap_export.proofs.Spelling.{bytes_done, in_range, room_next}
use Rattle.heap_export.proofs.Windows.{loads_on, still_shown, window_len, window_there}
use Rattle.heap_export.proofs.utf8.fill.Goals as goal

pub read_run-run-requires-clause-window : goal.read_run-run-requires-clause-window
read_run-run-requires-clause-window g c = window_there (view_of c.args.text.now.reader.agent) (view_of c.loop-i.text.reader.agent)
    c.args.w (c.requires.room.0, c.requires.room.1) c.loop-i.invariant.loads

pub slice_bounds-put_small-end : goal.slice_bounds-put_small-end
slice_bounds-put_small-end g c = let v = view_of c.args.text.now.reader.agent in let us = c.requires.room.0 in let shown = c.requires.room.1 in
    let inv = c.loop-i.invariant in let read = c.read_run-run.ensures in let i = c.loop-i.i in let run = c.read_run-run.result in
    let len = window_len v c.args.w us shown in let within = read.within in let l : i + run ≤ length us = omega arith in
    room_run c.args.unpaired us i run l (shown_ascii us c.read_run-run.new.ahead.units i run read.small
    (read.units us (still_shown v (view_of c.loop-i.text.reader.agent) c.args.w us inv.loads shown)))
    c.loop-i.out c.loop-i.at (c.loop-i.auto.out ∙ c.requires.room.2) inv.room (inv.bytes us shown)

pub loop-i-preserved-then-run-gt0 : goal.loop-i-preserved-then-run-gt0
loop-i-preserved-then-run-gt0 g c = let v = view_of c.args.text.now.reader.agent in let u = view_of c.loop-i.text.reader.agent in let inv = c.loop-i.invariant in
    let w = c.args.w in let i = c.loop-i.i in let run = c.read_run-run.result in let read = c.read_run-run.ensures in
    let out = c.loop-i.out in let at = c.loop-i.at in let block = c.read_run-run.new.ahead.units in
    let us = c.requires.room.0 in let shown = c.requires.room.1 in let within = read.within in
    let len = window_len v w us shown in let l : i + run ≤ length us = omega arith in
    let r = room_run c.args.unpaired us i run l (shown_ascii us block i run read.small (read.units us (still_shown v u w us inv.loads shown)))
    out at (c.loop-i.auto.out ∙ c.requires.room.2) inv.room (inv.bytes us shown) in record {
      kept = record { heap = read.kept.heap ∙ inv.kept.heap; limit = read.kept.limit ∙ inv.kept.limit };
      loads = loads_on v u (view_of c.read_run-run.new.text.reader.agent) inv.loads read.loads;
      within = omega arith;
      room = run_room at run out c.put_small.new.out block r c.put_small.auto.out c.put_small.ensures;
      bytes = λ xs h. let long = window_len v w xs h in let m : i + run ≤ length xs = omega arith in let same = read.units xs (still_shown v u w xs inv.loads h) in
          run_next at run out c.put_small.new.out block r c.put_small.auto.out c.put_small.ensures c.args.unpaired xs i m (shown_ascii xs block i run read.small same) same (inv.bytes xs h);
    }

pub overflow_add-i : goal.overflow_add-i
overflow_add-i g c = let us = c.requires.room.0 in let shown = c.requires.room.1 in
    let within = c.read_run-run.ensures.within in let short = window_short (view_of c.args.text.now.reader.agent) c.args.w us c.args.text.now.reader.belongs.5 shown in omega arith

pub point_at-point-requires-clause-window : goal.point_at-point-requires-clause-window
point_at-point-requires-clause-window g c = let v = view_of c.args.text.now.reader.agent in let m = view_of c.read_run-run.new.text.reader.agent in
    window_there v m c.args.w (c.requires.room.0, c.requires.room.1) (loads_on v (view_of c.loop-i.text.reader.agent) m c.loop-i.invariant.loads c.read_run-run.ensures.loads)

pub put_point-at-requires-clause-range : goal.put_point-at-requires-clause-range
put_point-at-requires-clause-range g c = let v = view_of c.args.text.now.reader.agent in let m = view_of c.read_run-run.new.text.reader.agent in
    let loads = loads_on v (view_of c.loop-i.text.reader.agent) m c.loop-i.invariant.loads c.read_run-run.ensures.loads in
    let us = c.requires.room.0 in let there = c.point_at-point.ensures.point us (still_shown v m c.args.w us loads c.requires.room.1) in
    subst (λ (x : ℕ). x < 1114112) (sym c.written.ensures) (in_range c.args.unpaired c.point_at-point.result.value there.range)

pub put_point-at-requires-clause-room : goal.put_point-at-requires-clause-room
put_point-at-requires-clause-room g c = let v = view_of c.args.text.now.reader.agent in let m = view_of c.read_run-run.new.text.reader.agent in
    let us = c.requires.room.0 in let shown = c.requires.room.1 in let inv = c.loop-i.invariant in
    let loads = loads_on v (view_of c.loop-i.text.reader.agent) m inv.loads c.read_run-run.ensures.loads in
    let there = c.point_at-point.ensures.point us (still_shown v m c.args.w us loads shown) in
    let room = room_next c.args.unpaired us c.loop-i.out c.loop-i.i c.loop-i.at c.point_at-point.result there (c.loop-i.auto.out ∙ c.requires.room.2) inv.room (inv.bytes us shown) in
    let e = ap len_utf8 c.written.ensures in let part = part_len c.loop-i.at c.loop-i.out inv.room in omega (arith, room, e, part)

pub loop-i-preserved : goal.loop-i-preserved
loop-i-preserved g c = let v = view_of c.args.text.now.reader.agent in let m = view_of c.read_run-run.new.text.reader.agent in let inv = c.loop-i.invariant in
    let read = c.read_run-run.ensures in let loads = loads_on v (view_of c.loop-i.text.reader.agent) m inv.loads read.loads in
    let p = c.point_at-point.result in let out = c.loop-i.out in let at = c.loop-i.at in let k = length out - at in
    let us = c.requires.room.0 in let shown = c.requires.room.1 in let there = c.point_at-point.ensures.point us (still_shown v m c.args.w us loads shown) in
    let len = window_len v c.args.w us shown in let within = there.within in let put = c.put_point-at.ensures in record {
      kept = record { heap = c.point_at-point.ensures.kept.heap ∙ (read.kept.heap ∙ inv.kept.heap); limit = c.point_at-point.ensures.kept.limit ∙ (read.kept.limit ∙ inv.kept.limit) };
      loads = loads_on v m (view_of c.point_at-point.new.text.reader.agent) loads c.point_at-point.ensures.loads;
      within = omega arith;
      room = fill_room at k c.put_point-at.result c.written.result out c.put_point-at.new.out _ inv.room put.count put.bytes;
      bytes = λ xs h. fill_next at k c.put_point-at.result c.written.result out c.put_point-at.new.out _ inv.room put.count put.bytes c.args.unpaired xs c.loop-i.i p
          (c.point_at-point.ensures.point xs (still_shown v m c.args.w xs loads h)) c.written.ensures (inv.bytes xs h);
    }

pub overflow_add-i-in-loop-i : goal.overflow_add-i-in-loop-i
overflow_add-i-in-loop-i g c = let v = view_of c.args.text.now.reader.agent in let m = view_of c.read_run-run.new.text.reader.agent in
    let loads = loads_on v (view_of c.loop-i.text.reader.agent) m c.loop-i.invariant.loads c.read_run-run.ensures.loads in
    let us = c.requires.room.0 in let shown = c.requires.room.1 in let there = c.point_at-point.ensures.point us (still_shown v m c.args.w us loads shown) in
    let len = window_len v c.args.w us shown in let within = there.within in let short = window_short v c.args.w us c.args.text.now.reader.belongs.5 shown in omega arith

pub loop-i-smaller : goal.loop-i-smaller
loop-i-smaller g c = let v = view_of c.args.text.now.reader.agent in let m = view_of c.read_run-run.new.text.reader.agent in
    let loads = loads_on v (view_of c.loop-i.text.reader.agent) m c.loop-i.invariant.loads c.read_run-run.ensures.loads in
    let us = c.requires.room.0 in let shown = c.requires.room.1 in let there = c.point_at-point.ensures.point us (still_shown v m c.args.w us loads shown) in
    let some = there.some in let t = c.loop-i-test.true in omega arith

pub returns-clause-bytes : goal.returns-clause-bytes
returns-clause-bytes g c us h long = let n = window_len (view_of c.args.text.now.reader.agent) c.args.w us h in
    let t = c.loop-i-test.false in let inv = c.loop-i.invariant in let end : length us ≤ c.loop-i.i = omega arith in
    bytes_done c.args.unpaired us c.loop-i.out c.loop-i.i c.loop-i.at end (c.loop-i.auto.out ∙ long) inv.room (inv.bytes us h)
