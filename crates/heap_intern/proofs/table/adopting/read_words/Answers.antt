use Rattle.std.proofs.Common.{◌∙◌, ℕ, ◌+◌, ◌<◌, ◌/◌, subst, sym, arith}
use Rattle.js_units.specs.Lanes.{lane_count}
use Rattle.heap_rule.specs.Maps.{HasKey}
use Rattle.heap_rule.specs.declared.view.View.{View}
use Rattle.heap_read.proofs.Comparison.{frozen_window_stays, words_on}
use Rattle.heap_read.proofs.Loaded.{reads_trans}
use Rattle.heap_read.proofs.Showing.{forms_held}
use Rattle.heap_read.proofs.WindowLemmas.{forms_trans}
use Rattle.heap_intern.proofs.table.adopting.read_words.Goals as goal

pub hold_in-held-requires-clause-frozen : goal.hold_in-held-requires-clause-frozen
hold_in-held-requires-clause-frozen g c = let v : View = c.args.reader.now.agent.seat.me.0 in let u : View = c.loop-i.reader.agent.seat.me.0 in let s = c.loop-i.invariant in
    frozen_window_stays v u c.args.w (forms_held v u s.forms.0) s.reads.known c.requires.frozen

pub loop-i-preserved : goal.loop-i-preserved
loop-i-preserved g c = let v : View = c.args.reader.now.agent.seat.me.0 in let u : View = c.loop-i.reader.agent.seat.me.0 in let x : View = c.hold_in-held.new.self.agent.seat.me.0 in
    let s = c.loop-i.invariant in let e = c.hold_in-held.ensures in let has = e.has in let held = c.hold_in-held.result in
    let within = e.held.within in let i : ℕ = c.loop-i.i in let n = c.count_from-count.ensures in
    record {
      most = omega arith;
      heap = e.reads.heap ∙ s.heap;
      reads = reads_trans v u x s.reads e.reads.view;
      forms = forms_trans v u x s.forms e.forms;
      learned = e.learned;
      frozen = subst (λ (m : ℕ). (k : ℕ) → k < i + m → HasKey x.frozen (c.args.w.start + (c.args.w.offset + k) / lane_count c.args.w.wide))
          (sym n) (words_on u x c.args.w held i e.reads.view.known e.held has.0 has.1 s.frozen);
    }

pub returns-clause-frozen : goal.returns-clause-frozen
returns-clause-frozen g c = record { each = λ k l. c.loop-i.invariant.frozen k (omega arith) }
