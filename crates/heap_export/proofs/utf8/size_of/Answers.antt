use Rattle.std.proofs.Common.{◌+◌, ◌≤◌, ap, sym, ◌∙◌, ℕ, length, drop, arith}
use Rattle.std.specs.Char.{len_utf8}
use Rattle.heap_table.specs.Agents.{view_of}
use Rattle.heap_read.proofs.WindowLemmas.{window_short}
use Rattle.heap_export.proofs.AsciiRuns.{shown_ascii, size_run, whole_run}
use Rattle.heap_export.proofs.Spelling.{few_next, none_at_all, none_yet, refused_at, size_done, size_next, spelled}
use Rattle.heap_export.proofs.Windows.{loads_on, still_shown, window_len, window_there}
use Rattle.heap_export.proofs.utf8.size_of.Goals as goal

pub read_run-run-requires-clause-window : goal.read_run-run-requires-clause-window
read_run-run-requires-clause-window g c = window_there (view_of c.args.text.now.reader.agent) (view_of c.loop-i.text.reader.agent) c.args.w c.requires.window c.loop-i.invariant.loads

pub overflow_add-size : goal.overflow_add-size
overflow_add-size g c = let v = view_of c.args.text.now.reader.agent in let w = c.args.w in
    let us = c.requires.window.0 in let shown = c.requires.window.1 in
    let before = c.loop-i.invariant.few in let within = c.read_run-run.ensures.within in
    let short = window_short v w us c.args.text.now.reader.belongs.5 shown in omega arith

pub overflow_add-i : goal.overflow_add-i
overflow_add-i g c = let v = view_of c.args.text.now.reader.agent in
    let us = c.requires.window.0 in let shown = c.requires.window.1 in
    let within = c.read_run-run.ensures.within in let short = window_short v c.args.w us c.args.text.now.reader.belongs.5 shown in omega arith

pub loop-i-preserved-then-run-gt0 : goal.loop-i-preserved-then-run-gt0
loop-i-preserved-then-run-gt0 g c = let v = view_of c.args.text.now.reader.agent in let u = view_of c.loop-i.text.reader.agent in let inv = c.loop-i.invariant in
    let w = c.args.w in let i = c.loop-i.i in let run = c.read_run-run.result in let read = c.read_run-run.ensures in
    let within = read.within in let before = inv.few in record {
      kept = record { heap = read.kept.heap ∙ inv.kept.heap; limit = read.kept.limit ∙ inv.kept.limit };
      loads = loads_on v u (view_of c.read_run-run.new.text.reader.agent) inv.loads read.loads;
      within = omega arith;
      few = omega arith;
      size = λ xs h. let len = window_len v w xs h in let l : i + run ≤ length xs = omega arith in
          size_run c.args.unpaired xs i run l (shown_ascii xs c.read_run-run.new.ahead.units i run read.small (read.units xs (still_shown v u w xs inv.loads h)))
          c.loop-i.size (length (spelled c.args.unpaired xs)) (inv.size xs h);
      whole = λ xs h. let len = window_len v w xs h in let l : i + run ≤ length xs = omega arith in
          whole_run c.args.unpaired xs i run l (shown_ascii xs c.read_run-run.new.ahead.units i run read.small (read.units xs (still_shown v u w xs inv.loads h)))
          (inv.whole xs h);
    }

pub point_at-point-requires-clause-window : goal.point_at-point-requires-clause-window
point_at-point-requires-clause-window g c = let v = view_of c.args.text.now.reader.agent in let m = view_of c.read_run-run.new.text.reader.agent in
    window_there v m c.args.w c.requires.window (loads_on v (view_of c.loop-i.text.reader.agent) m c.loop-i.invariant.loads c.read_run-run.ensures.loads)

pub loop-i-preserved : goal.loop-i-preserved
loop-i-preserved g c = let v = view_of c.args.text.now.reader.agent in let m = view_of c.read_run-run.new.text.reader.agent in let inv = c.loop-i.invariant in
    let loads = loads_on v (view_of c.loop-i.text.reader.agent) m inv.loads c.read_run-run.ensures.loads in
    let read = c.read_run-run.ensures in let p = c.point_at-point.result in let w = c.args.w in let i = c.loop-i.i in
    let us = c.requires.window.0 in let shown = c.requires.window.1 in let there = c.point_at-point.ensures.point us (still_shown v m w us loads shown) in
    let len = window_len v w us shown in let e = c.width-size.ensures ∙ ap len_utf8 c.written.ensures in let few = few_next c.args.unpaired us i p there in
    let within = there.within in let before = inv.few in record {
      kept = record { heap = c.point_at-point.ensures.kept.heap ∙ (read.kept.heap ∙ inv.kept.heap); limit = c.point_at-point.ensures.kept.limit ∙ (read.kept.limit ∙ inv.kept.limit) };
      loads = loads_on v m (view_of c.point_at-point.new.text.reader.agent) loads c.point_at-point.ensures.loads;
      within = omega arith;
      few = omega arith;
      size = λ xs h. let at = c.point_at-point.ensures.point xs (still_shown v m w xs loads h) in
          ap (λ (k : ℕ). (c.loop-i.size + k) + length (spelled c.args.unpaired (drop (i + p.count) xs))) e ∙ size_next c.args.unpaired xs i
          p at c.loop-i.size (length (spelled c.args.unpaired xs)) (inv.size xs h);
      whole = λ xs h. let at = c.point_at-point.ensures.point xs (still_shown v m w xs loads h) in
          none_yet c.args.unpaired xs i p at (sym c.is_refused.ensures ∙ c.if-is_refused.false) (inv.whole xs h);
    }

pub overflow_add-size-in-loop-i : goal.overflow_add-size-in-loop-i
overflow_add-size-in-loop-i g c = let v = view_of c.args.text.now.reader.agent in let m = view_of c.read_run-run.new.text.reader.agent in let inv = c.loop-i.invariant in
    let loads = loads_on v (view_of c.loop-i.text.reader.agent) m inv.loads c.read_run-run.ensures.loads in
    let p = c.point_at-point.result in let w = c.args.w in let i = c.loop-i.i in
    let us = c.requires.window.0 in let shown = c.requires.window.1 in let there = c.point_at-point.ensures.point us (still_shown v m w us loads shown) in
    let len = window_len v w us shown in let e = c.width-size.ensures ∙ ap len_utf8 c.written.ensures in let few = few_next c.args.unpaired us i p there in
    let within = there.within in let before = inv.few in
    let short = window_short v w us c.args.text.now.reader.belongs.5 shown in omega arith

pub overflow_add-i-in-loop-i : goal.overflow_add-i-in-loop-i
overflow_add-i-in-loop-i g c = let v = view_of c.args.text.now.reader.agent in let m = view_of c.read_run-run.new.text.reader.agent in
    let loads = loads_on v (view_of c.loop-i.text.reader.agent) m c.loop-i.invariant.loads c.read_run-run.ensures.loads in
    let us = c.requires.window.0 in let shown = c.requires.window.1 in let there = c.point_at-point.ensures.point us (still_shown v m c.args.w us loads shown) in
    let len = window_len v c.args.w us shown in let within = there.within in let short = window_short v c.args.w us c.args.text.now.reader.belongs.5 shown in omega arith

pub loop-i-smaller : goal.loop-i-smaller
loop-i-smaller g c = let v = view_of c.args.text.now.reader.agent in let m = view_of c.read_run-run.new.text.reader.agent in
    let loads = loads_on v (view_of c.loop-i.text.reader.agent) m c.loop-i.invariant.loads c.read_run-run.ensures.loads in
    let us = c.requires.window.0 in let shown = c.requires.window.1 in let there = c.point_at-point.ensures.point us (still_shown v m c.args.w us loads shown) in
    let some = there.some in let t = c.loop-i-test.true in omega arith

pub returns-then-is_refused-clause-loads : goal.returns-then-is_refused-clause-loads
returns-then-is_refused-clause-loads g c = let v = view_of c.args.text.now.reader.agent in let m = view_of c.read_run-run.new.text.reader.agent in
    loads_on v m (view_of c.point_at-point.new.text.reader.agent) (loads_on v (view_of c.loop-i.text.reader.agent) m c.loop-i.invariant.loads c.read_run-run.ensures.loads)
    c.point_at-point.ensures.loads

pub returns-then-is_refused-clause-refused : goal.returns-then-is_refused-clause-refused
returns-then-is_refused-clause-refused g c us h = let v = view_of c.args.text.now.reader.agent in let m = view_of c.read_run-run.new.text.reader.agent in let inv = c.loop-i.invariant in
    let loads = loads_on v (view_of c.loop-i.text.reader.agent) m inv.loads c.read_run-run.ensures.loads in
    let at = c.point_at-point.ensures.point us (still_shown v m c.args.w us loads h) in
    refused_at c.args.unpaired us c.loop-i.i c.point_at-point.result at (sym c.is_refused.ensures ∙ c.if-is_refused.true) (inv.whole us h)

pub returns-clause-size : goal.returns-clause-size
returns-clause-size g c us h = let n = window_len (view_of c.args.text.now.reader.agent) c.args.w us h in let t = c.loop-i-test.false in let end : length us ≤ c.loop-i.i = omega arith in
    size_done c.args.unpaired us c.loop-i.i c.loop-i.size end (c.loop-i.invariant.size us h)

pub returns-clause-whole : goal.returns-clause-whole
returns-clause-whole g c us h = let n = window_len (view_of c.args.text.now.reader.agent) c.args.w us h in let t = c.loop-i-test.false in let end : length us ≤ c.loop-i.i = omega arith in
    none_at_all c.args.unpaired us c.loop-i.i end (c.loop-i.invariant.whole us h)
