use Rattle.std.proofs.Common.{◌≡◌, ◌∙◌, ℕ, ◌+◌, ◌<◌, get_or, arith}
use Rattle.heap_rule.specs.declared.view.View.{View}
use Rattle.heap_read.specs.Written.{held_unit}
use Rattle.heap_read.proofs.Comparison.{frozen_window_stays}
use Rattle.heap_read.proofs.Loaded.{reads_trans}
use Rattle.heap_read.proofs.Showing.{forms_held}
use Rattle.heap_read.proofs.WindowLemmas.{forms_trans}
use Rattle.heap_intern.proofs.Listed.{listed_on}
use Rattle.heap_intern.proofs.table.matching.shows_lanes.Goals as goal

pub hold_in-held-requires-clause-frozen : goal.hold_in-held-requires-clause-frozen
hold_in-held-requires-clause-frozen g c = let v : View = c.args.reader.now.agent.seat.me.0 in let u : View = c.loop-i.reader.agent.seat.me.0 in let s = c.loop-i.invariant in
    frozen_window_stays v u c.args.w (forms_held v u s.forms.0) s.reads.known c.requires.frozen

pub loop-i-preserved : goal.loop-i-preserved
loop-i-preserved g c = let v : View = c.args.reader.now.agent.seat.me.0 in let u : View = c.loop-i.reader.agent.seat.me.0 in let x : View = c.hold_in-held.new.self.agent.seat.me.0 in
    let s = c.loop-i.invariant in let e = c.hold_in-held.ensures in let has = e.has in let within = e.held.within in let n = c.count_from-count.ensures in
    let t : (k : ℕ) → k < c.count_from-count.result → held_unit c.hold_in-held.result (c.loop-i.i + k) ≡ get_or c.args.units.now (c.loop-i.i + k) 0 = c.if-not-has_list_at.ensures in
    record {
      most = omega arith;
      heap = e.reads.heap ∙ s.heap;
      reads = reads_trans v u x s.reads e.reads.view;
      forms = forms_trans v u x s.forms e.forms;
      learned = e.learned;
      same = listed_on u x c.args.w c.args.units.now c.hold_in-held.result c.loop-i.i c.count_from-count.result e.reads.view.known e.held has.0 (omega arith) s.same t;
    }
