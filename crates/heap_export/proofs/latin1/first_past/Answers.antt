use Rattle.std.proofs.Common.{◌+◌, ◌<◌, ◌≤◌, ℕ, sym, ◌∙◌, length, subst, arith}
use Rattle.heap_table.specs.Agents.{view_of}
use Rattle.heap_export.proofs.UnitByUnit.{all_passed, first_wide, narrow_run, next_narrow}
use Rattle.heap_export.proofs.Windows.{loads_on, still_shown, window_len, window_there}
use Rattle.heap_export.proofs.latin1.first_past.Goals as goal

pub read_run-run-requires-clause-window : goal.read_run-run-requires-clause-window
read_run-run-requires-clause-window g c = window_there (view_of c.args.text.now.reader.agent) (view_of c.loop-i.text.reader.agent) c.args.w c.requires.window c.loop-i.invariant.loads

pub loop-i-preserved-then-run-gt0 : goal.loop-i-preserved-then-run-gt0
loop-i-preserved-then-run-gt0 g c = let v = view_of c.args.text.now.reader.agent in let u = view_of c.loop-i.text.reader.agent in let inv = c.loop-i.invariant in
    let i = c.loop-i.i in let run = c.read_run-run.result in let read = c.read_run-run.ensures in let within = read.within in record {
      kept = record { heap = read.kept.heap ∙ inv.kept.heap; limit = read.kept.limit ∙ inv.kept.limit };
      loads = loads_on v u (view_of c.read_run-run.new.text.reader.agent) inv.loads read.loads;
      within = omega arith;
      narrow = λ us h. let n = window_len v c.args.w us h in let l : i + run ≤ length us = omega arith in
          inv.narrow us h ∙ narrow_run us c.read_run-run.new.ahead.units i run l read.small (read.units us (still_shown v u c.args.w us inv.loads h));
    }

pub unit-requires-clause-window : goal.unit-requires-clause-window
unit-requires-clause-window g c = let v = view_of c.args.text.now.reader.agent in let m = view_of c.read_run-run.new.text.reader.agent in
    window_there v m c.args.w c.requires.window (loads_on v (view_of c.loop-i.text.reader.agent) m c.loop-i.invariant.loads c.read_run-run.ensures.loads)

pub loop-i-preserved : goal.loop-i-preserved
loop-i-preserved g c = let v = view_of c.args.text.now.reader.agent in let m = view_of c.read_run-run.new.text.reader.agent in let inv = c.loop-i.invariant in
    let read = c.read_run-run.ensures in let loads = loads_on v (view_of c.loop-i.text.reader.agent) m inv.loads read.loads in let t = c.loop-i-test.true in record {
      kept = record { heap = c.unit.ensures.kept.heap ∙ (read.kept.heap ∙ inv.kept.heap); limit = c.unit.ensures.kept.limit ∙ (read.kept.limit ∙ inv.kept.limit) };
      loads = loads_on v m (view_of c.unit.new.text.reader.agent) loads c.unit.ensures.loads;
      within = omega arith;
      narrow = λ us h. let n = window_len v c.args.w us h in let left : c.loop-i.i < length us = omega arith in
          let u = c.unit.ensures.unit us (still_shown v m c.args.w us loads h) in
          inv.narrow us h ∙ next_narrow us c.loop-i.i left (subst (λ (x : ℕ). x ≤ 255) u c.if-unit-gt255.false);
    }

pub returns-then-unit-gt255-clause-loads : goal.returns-then-unit-gt255-clause-loads
returns-then-unit-gt255-clause-loads g c = let v = view_of c.args.text.now.reader.agent in let m = view_of c.read_run-run.new.text.reader.agent in
    loads_on v m (view_of c.unit.new.text.reader.agent) (loads_on v (view_of c.loop-i.text.reader.agent) m c.loop-i.invariant.loads c.read_run-run.ensures.loads) c.unit.ensures.loads

pub returns-then-unit-gt255-clause-first : goal.returns-then-unit-gt255-clause-first
returns-then-unit-gt255-clause-first g c us h = let v = view_of c.args.text.now.reader.agent in let m = view_of c.read_run-run.new.text.reader.agent in let inv = c.loop-i.invariant in
    let loads = loads_on v (view_of c.loop-i.text.reader.agent) m inv.loads c.read_run-run.ensures.loads in
    let n = window_len v c.args.w us h in let t = c.loop-i-test.true in let left : c.loop-i.i < length us = omega arith in
    let u = c.unit.ensures.unit us (still_shown v m c.args.w us loads h) in
    sym (inv.narrow us h ∙ first_wide us c.loop-i.i left (subst (λ (x : ℕ). 255 < x) u c.if-unit-gt255.true))

pub returns-clause-first : goal.returns-clause-first
returns-clause-first g c us h = let n = window_len (view_of c.args.text.now.reader.agent) c.args.w us h in let t = c.loop-i-test.false in
    let end : length us ≤ c.loop-i.i = omega arith in sym (c.loop-i.invariant.narrow us h ∙ all_passed us c.loop-i.i end)
