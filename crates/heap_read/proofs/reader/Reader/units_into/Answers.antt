use Rattle.std.proofs.Common.{◌+◌, length, arith, ◌∙◌, ⊎_elim}
use Rattle.std.proofs.lemmas.Bool.{cases_lt}
use Rattle.heap_rule.specs.declared.view.View.{View}
use Rattle.heap_read.proofs.Loaded.{reads_trans}
use Rattle.heap_read.proofs.Showing.{place_small, window_length}
use Rattle.heap_read.proofs.WindowLemmas.{forms_trans, frozen_later, lane_on, read_more, read_all, window_later}
use Rattle.heap_read.proofs.reader.Reader.units_into.Goals as goal

pub word_with-word-requires-clause-frozen : goal.word_with-word-requires-clause-frozen
word_with-word-requires-clause-frozen g c = let v : View = c.args.self.now.agent.seat.me.0 in let u : View = c.loop-done.self.agent.seat.me.0 in let s = c.loop-done.invariant in
    frozen_later v u c.args.w c.requires.window.0 s.reads s.forms c.requires.window.1

pub returns-clause-units : goal.returns-clause-units
returns-clause-units g c us window =
    let v : View = c.args.self.now.agent.seat.me.0 in
    let s = c.loop-done.invariant in
    let long = window_length v c.args.w us window in
    let w = c.requires.within in
    read_all us c.args.from (length c.args.into.now) c.loop-done.into (omega arith) (omega arith) (λ k l. s.same us window k (omega arith))

pub overflow_add-w : goal.overflow_add-w
overflow_add-w g c = let v : View = c.args.self.now.agent.seat.me.0 in let u : View = c.loop-done.self.agent.seat.me.0 in let s = c.loop-done.invariant in
    let a = place_small u c.args.w (c.args.from + c.loop-done.done) c.loop-done.self.belongs.5
    (frozen_later v u c.args.w c.requires.window.0 s.reads s.forms c.requires.window.1)
    (omega (arith, c.requires.within, c.loop-done-test.true)) in omega arith

pub whole_words_into-done-requires-clause-window : goal.whole_words_into-done-requires-clause-window
whole_words_into-done-requires-clause-window g c = let v : View = c.args.self.now.agent.seat.me.0 in let u : View = c.loop-done.self.agent.seat.me.0 in let s = c.loop-done.invariant in
    (c.requires.window.0, window_later v u c.args.w c.requires.window.0 s.reads s.forms c.requires.window.1)

pub loop-done-preserved-then-into-done : goal.loop-done-preserved-then-into-done
loop-done-preserved-then-into-done g c =
    let v : View = c.args.self.now.agent.seat.me.0 in
    let u : View = c.loop-done.self.agent.seat.me.0 in
    let x : View = c.whole_words_into-done.new.self.agent.seat.me.0 in
    let s = c.loop-done.invariant in
    let e = c.whole_words_into-done.ensures in
    let more = e.more in
    record {
      most = omega arith;
      same = λ us window k l. ⊎_elim
          (λ a. e.before k a ∙ s.same us window k a)
          (λ a. e.inside us (window_later v u c.args.w us s.reads s.forms window) k a l)
          (cases_lt k c.loop-done.done);
      heap = e.reads.heap ∙ s.heap;
      reads = reads_trans v u x s.reads e.reads.view;
      forms = forms_trans v u x s.forms e.forms;
    }

pub loop-done-preserved : goal.loop-done-preserved
loop-done-preserved g c =
    let v : View = c.args.self.now.agent.seat.me.0 in
    let u : View = c.loop-done.self.agent.seat.me.0 in
    let x : View = c.word_with-word.new.self.agent.seat.me.0 in
    let s = c.loop-done.invariant in
    let e = c.word_with-word.ensures in
    let size = c.lanes-size.ensures in
    let i = c.args.from + c.loop-done.done in
    let within = c.requires.within in
    let most = s.most in
    let m = c.min-count.ensures in
    record {
      most = omega arith;
      same = λ us window.
          let shows = e.word us (window_later v u c.args.w us s.reads s.forms window) in
          read_more us c.args.from c.loop-done.done c.min-count.result c.loop-done.into c.put_lanes.new.into (s.same us window) c.put_lanes.ensures.before
          (λ k l. c.put_lanes.ensures.inside k l ∙ (lane_on c.args.w us i c.word_with-word.result
          c.word_and_lane-lane.result.1 shows c.word_and_lane-lane.ensures.1 k (omega arith) (omega arith)));
      heap = e.reads.heap ∙ s.heap;
      reads = reads_trans v u x s.reads e.reads.view;
      forms = forms_trans v u x s.forms e.forms;
    }
