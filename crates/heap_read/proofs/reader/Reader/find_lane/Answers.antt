use Rattle.std.proofs.Common.{◌≡◌, ◌+◌, ap, sym, arith, ◌∙◌}
use Rattle.js_units.specs.Lanes.{lane_of}
use Rattle.heap_rule.specs.declared.view.View.{View}
use Rattle.heap_read.proofs.Loaded.{reads_trans}
use Rattle.heap_read.proofs.Showing.{place_small, window_length, word_small}
use Rattle.heap_read.proofs.WindowLemmas.{first_on, forms_trans, frozen_later, lane_on, none_in_lanes, none_in_word_on, none_on, window_later}
use Rattle.heap_read.proofs.reader.Reader.find_lane.Goals as goal

pub word_from-word-requires-clause-frozen : goal.word_from-word-requires-clause-frozen
word_from-word-requires-clause-frozen g c = let v : View = c.args.self.now.agent.seat.me.0 in let u : View = c.loop-i.self.agent.seat.me.0 in let s = c.loop-i.invariant in
    frozen_later v u c.args.w c.requires.window.0 s.reads s.forms c.requires.window.1

pub overflow_add-w : goal.overflow_add-w
overflow_add-w g c = let v : View = c.args.self.now.agent.seat.me.0 in let u : View = c.loop-i.self.agent.seat.me.0 in let s = c.loop-i.invariant in
    let a = place_small u c.args.w c.loop-i.i c.loop-i.self.belongs.5 (frozen_later v u c.args.w c.requires.window.0 s.reads s.forms c.requires.window.1) c.loop-i-test.true in omega arith

pub overflow_add-w-in-loop-i : goal.overflow_add-w-in-loop-i
overflow_add-w-in-loop-i g c = let v : View = c.args.self.now.agent.seat.me.0 in let u : View = c.loop-i.self.agent.seat.me.0 in let s = c.loop-i.invariant in
    rw c.word_and_lane-number.ensures.0
    (let a = word_small u c.args.w c.loop-i.i c.loop-i.self.belongs.5 (frozen_later v u c.args.w c.requires.window.0 s.reads s.forms c.requires.window.1) c.loop-i-test.true in omega arith)

pub returns-then-at-left-clause-least : goal.returns-then-at-left-clause-least
returns-then-at-left-clause-least g c us window =
    let v : View = c.args.self.now.agent.seat.me.0 in
    let u : View = c.loop-i.self.agent.seat.me.0 in
    let s = c.loop-i.invariant in
    let shows = c.word_from-word.ensures.word us (window_later v u c.args.w us s.reads s.forms window) in
    let at = c.first_from-at-in-loop-i.result in
    let i = c.loop-i.i in
    let low = s.low in
    let lane = c.word_and_lane-number.result.1 in
    let is = c.word_and_lane-number.ensures.1 in
    let size = c.lanes-size.ensures in
    let m = c.min-left.ensures in
    let inside = c.if-at-left.true in
    let long = window_length v c.args.w us window in (
      omega arith,
      omega arith,
      sym (lane_on c.args.w us i c.word_from-word.result lane shows is at (omega arith) (omega arith)) ∙ c.first_from-at-in-loop-i.ensures.found (omega arith),
      none_on us c.args.unit c.args.from i (i + at) (s.none us window)
          (λ k a b. none_in_lanes c.args.w us i c.word_from-word.result lane shows is c.args.unit at c.first_from-at-in-loop-i.ensures.none k a
          b (omega arith) (omega arith)),
    )

pub loop-i-init : goal.loop-i-init
loop-i-init g c = let e = c.pass_fours-i.ensures in record {
  low = e.within.0;
  most = e.within.1;
  none = e.none;
  heap = e.reads.heap;
  reads = e.reads.view;
  forms = e.forms;
}

pub pass_fours-i-requires-in-loop-i-clause-window : goal.pass_fours-i-requires-in-loop-i-clause-window
pass_fours-i-requires-in-loop-i-clause-window g c =
    let v : View = c.args.self.now.agent.seat.me.0 in
    let u : View = c.loop-i.self.agent.seat.me.0 in
    let x : View = c.word_from-word.new.self.agent.seat.me.0 in
    let s = c.loop-i.invariant in
    let e = c.word_from-word.ensures in
    (c.requires.window.0, window_later v x c.args.w c.requires.window.0 (reads_trans v u x s.reads e.reads.view) (forms_trans v u x s.forms e.forms) c.requires.window.1)

pub loop-i-preserved : goal.loop-i-preserved
loop-i-preserved g c =
    let v : View = c.args.self.now.agent.seat.me.0 in
    let u : View = c.loop-i.self.agent.seat.me.0 in
    let x : View = c.word_from-word.new.self.agent.seat.me.0 in
    let y : View = c.pass_fours-i-in-loop-i.new.self.agent.seat.me.0 in
    let s = c.loop-i.invariant in
    let e = c.word_from-word.ensures in
    let p = c.pass_fours-i-in-loop-i.ensures in
    let reads = reads_trans v u x s.reads e.reads.view in
    let forms = forms_trans v u x s.forms e.forms in
    let i = c.loop-i.i in
    let low = s.low in
    let lane = c.word_and_lane-number.result.1 in
    let is = c.word_and_lane-number.ensures.1 in
    let size = c.lanes-size.ensures in
    let m = c.min-left.ensures in
    let outside = c.if-at-left.false in
    let later = p.within.0 in
    record {
      low = omega arith;
      most = p.within.1;
      none = λ us window.
          let shows = e.word us (window_later v u c.args.w us s.reads s.forms window) in
          none_on us c.args.unit c.args.from (i + c.min-left.result) c.pass_fours-i-in-loop-i.result
          (none_on us c.args.unit c.args.from i (i + c.min-left.result) (s.none us window)
          (λ k a b. none_in_lanes c.args.w us i c.word_from-word.result lane shows is c.args.unit c.first_from-at-in-loop-i.result
          c.first_from-at-in-loop-i.ensures.none k a (omega arith) (omega arith) (omega arith)))
          (p.none us (window_later v x c.args.w us reads forms window));
      heap = p.reads.heap ∙ (e.reads.heap ∙ s.heap);
      reads = reads_trans v x y reads p.reads.view;
      forms = forms_trans v x y forms p.forms;
    }

pub returns-then-at-left-clause-reads : goal.returns-then-at-left-clause-reads
returns-then-at-left-clause-reads g c =
    let v : View = c.args.self.now.agent.seat.me.0 in
    let u : View = c.loop-i.self.agent.seat.me.0 in
    let x : View = c.word_from-word.new.self.agent.seat.me.0 in
    record { heap = c.word_from-word.ensures.reads.heap ∙ c.loop-i.invariant.heap; view = reads_trans v u x c.loop-i.invariant.reads c.word_from-word.ensures.reads.view }

pub returns-then-at-size-clause-least : goal.returns-then-at-size-clause-least
returns-then-at-size-clause-least g c us window =
    let v : View = c.args.self.now.agent.seat.me.0 in
    let u : View = c.loop-i.self.agent.seat.me.0 in
    let s = c.loop-i.invariant in
    let shows = c.word_from-word.ensures.word us (window_later v u c.args.w us s.reads s.forms window) in
    let at = c.first_from-at.result in
    let i = c.loop-i.i in
    let low = s.low in
    let lane = c.word_and_lane-number.result.1 in
    let is = c.word_and_lane-number.ensures.1 in
    let size = c.lanes-size.ensures in
    let zero_lane = c.if-lane-eq0.true in
    let room = c.if-w-i.true in
    let inside = c.if-at-size.true in
    let same : at ≡ 0 + at = omega arith in
    let long = window_length v c.args.w us window in (
      omega arith,
      omega arith,
      sym (first_on c.args.w us i c.word_from-word.result lane shows is zero_lane at (omega arith) (omega arith)) ∙
          (ap (lane_of c.args.w.wide c.word_from-word.result) same ∙ c.first_from-at.ensures.found (omega arith)),
      none_on us c.args.unit c.args.from i (i + at) (s.none us window)
          (λ k a b. none_in_word_on c.args.w us i c.word_from-word.result lane shows is zero_lane c.args.unit at c.first_from-at.ensures.none k
          a b (omega arith) (omega arith)),
    )

pub returns-then-at-size-clause-reads : goal.returns-then-at-size-clause-reads
returns-then-at-size-clause-reads g c =
    let v : View = c.args.self.now.agent.seat.me.0 in
    let u : View = c.loop-i.self.agent.seat.me.0 in
    let x : View = c.word_from-word.new.self.agent.seat.me.0 in
    record { heap = c.word_from-word.ensures.reads.heap ∙ c.loop-i.invariant.heap; view = reads_trans v u x c.loop-i.invariant.reads c.word_from-word.ensures.reads.view }

pub loop-i-preserved-then-w-i : goal.loop-i-preserved-then-w-i
loop-i-preserved-then-w-i g c =
    let v : View = c.args.self.now.agent.seat.me.0 in
    let u : View = c.loop-i.self.agent.seat.me.0 in
    let x : View = c.word_from-word.new.self.agent.seat.me.0 in
    let s = c.loop-i.invariant in
    let e = c.word_from-word.ensures in
    let i = c.loop-i.i in
    let low = s.low in
    let lane = c.word_and_lane-number.result.1 in
    let is = c.word_and_lane-number.ensures.1 in
    let size = c.lanes-size.ensures in
    let zero_lane = c.if-lane-eq0.true in
    let room = c.if-w-i.true in
    let outside = c.if-at-size.false in
    record {
      low = omega arith;
      most = omega arith;
      none = λ us window.
          let shows = e.word us (window_later v u c.args.w us s.reads s.forms window) in
          none_on us c.args.unit c.args.from i (i + c.lanes-size.result) (s.none us window)
          (λ k a b. none_in_word_on c.args.w us i c.word_from-word.result lane shows is zero_lane c.args.unit c.first_from-at.result
          c.first_from-at.ensures.none k a (omega arith) (omega arith) (omega arith));
      heap = e.reads.heap ∙ s.heap;
      reads = reads_trans v u x s.reads e.reads.view;
      forms = forms_trans v u x s.forms e.forms;
    }
