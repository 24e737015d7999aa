use Rattle.std.proofs.Common.{◌+◌, ◌<◌, ◌≤◌, ◌∙◌, ℕ, true, get_or, subst, sym, arith}
use Rattle.js_units.proofs.PackedWords.{none_wide}
use Rattle.heap_rule.specs.declared.view.View.{View}
use Rattle.heap_read.specs.Shifted.{HoldsLanes}
use Rattle.heap_read.specs.Written.{held_unit}
use Rattle.heap_read.proofs.Loaded.{reads_trans}
use Rattle.heap_read.proofs.ShiftedLanes.{none_over, some_over}
use Rattle.heap_read.proofs.Showing.{window_length}
use Rattle.heap_read.proofs.WindowLemmas.{forms_trans, frozen_later, window_later}
use Rattle.heap_read.proofs.reader.Reader.has_wide_unit.Goals as goal

pub hold_in-held-requires-clause-frozen : goal.hold_in-held-requires-clause-frozen
hold_in-held-requires-clause-frozen g c = let v : View = c.args.self.now.agent.seat.me.0 in let u : View = c.loop-i.self.agent.seat.me.0 in let s = c.loop-i.invariant in
    frozen_later v u c.args.w c.requires.window.0 s.reads s.forms c.requires.window.1

pub returns-then-has_wide_lane-clause-wide : goal.returns-then-has_wide_lane-clause-wide
returns-then-has_wide_lane-clause-wide g c us window = let v : View = c.args.self.now.agent.seat.me.0 in
    let u : View = c.loop-i.self.agent.seat.me.0 in let s = c.loop-i.invariant in let e = c.hold_in-held.ensures in let held = c.hold_in-held.result in
    let holds = e.holds us (window_later v u c.args.w us s.reads s.forms window) in
    sym (some_over us held c.loop-i.i c.part.result holds e.has.0 e.has.1
    (subst (λ (n : ℕ). HoldsLanes true c.part.result n (λ k. held_unit held (c.loop-i.i + k))) c.count_from-count.ensures c.part.ensures)
    (c.has_wide_lane.ensures.some c.if-has_wide_lane.true))

pub loop-i-preserved : goal.loop-i-preserved
loop-i-preserved g c = let v : View = c.args.self.now.agent.seat.me.0 in let u : View = c.loop-i.self.agent.seat.me.0 in let x : View = c.hold_in-held.new.self.agent.seat.me.0 in
    let s = c.loop-i.invariant in let e = c.hold_in-held.ensures in let held = c.hold_in-held.result in let i = c.loop-i.i in
    let has = e.has in let within = e.held.within in let count = c.count_from-count.ensures in record {
      most = omega arith;
      heap = e.reads.heap ∙ s.heap;
      reads = reads_trans v u x s.reads e.reads.view;
      forms = forms_trans v u x s.forms e.forms;
      narrow = λ us window. let holds = e.holds us (window_later v u c.args.w us s.reads s.forms window) in
          subst (λ (n : ℕ). (q : ℕ) → q < i + n → get_or us q 0 ≤ 255) (sym count)
          (none_over us held i c.part.result holds has.0 has.1 (subst (λ (n : ℕ). HoldsLanes true c.part.result n (λ k. held_unit held (i + k))) count c.part.ensures)
          (λ k l m. let t = c.has_wide_lane.ensures.none k l m in let f = c.if-has_wide_lane.false in absurd (cc)) (e.wide ∙ c.requires.lanes) (s.narrow us window));
    }

pub returns-clause-wide : goal.returns-clause-wide
returns-clause-wide g c us window = let v : View = c.args.self.now.agent.seat.me.0 in let s = c.loop-i.invariant in let n = window_length v c.args.w us window in let test = c.loop-i-test.false in
    sym (none_wide us (λ q l. s.narrow us window q (omega arith)))
