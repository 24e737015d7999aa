use Rattle.std.proofs.Common.{◌+◌, ◌*◌, arith, ◌∙◌}
use Rattle.heap_rule.specs.declared.view.View.{View}
use Rattle.heap_read.proofs.Fronts.{count_some}
use Rattle.heap_read.proofs.Loaded.{reads_trans}
use Rattle.heap_read.proofs.Showing.{place_small, window_frozen, word_small}
use Rattle.heap_read.proofs.Turns.{begins_behind, word_there}
use Rattle.heap_read.proofs.WindowLemmas.{forms_trans, frozen_later, read_on, window_later}
use Rattle.heap_read.proofs.reader.Reader.lanes_into.Goals as goal

pub four_into-requires-clause-window : goal.four_into-requires-clause-window
four_into-requires-clause-window g c = let v : View = c.args.self.now.agent.seat.me.0 in let u : View = c.loop-into.self.agent.seat.me.0 in let s = c.loop-into.invariant in
    (c.requires.window.0, window_later v u c.args.w c.requires.window.0 s.reads s.forms c.requires.window.1)

pub word_into-requires-clause-window : goal.word_into-requires-clause-window
word_into-requires-clause-window g c = let v : View = c.args.self.now.agent.seat.me.0 in let u : View = c.loop-into.self.agent.seat.me.0 in let s = c.loop-into.invariant in
    (c.requires.window.0, window_later v u c.args.w c.requires.window.0 s.reads s.forms c.requires.window.1)

pub loop-into-preserved-then-into-next : goal.loop-into-preserved-then-into-next
loop-into-preserved-then-into-next g c =
    let v : View = c.args.self.now.agent.seat.me.0 in
    let u : View = c.loop-into.self.agent.seat.me.0 in
    let x : View = c.four_into.new.self.agent.seat.me.0 in
    let s = c.loop-into.invariant in
    let e = c.four_into.ensures in
    let size = c.lanes-size.ensures in
    let next = c.loop-into.next in
    let most = s.most in
    let low = s.low in
    let room = c.if-into-next.true in
    record {
      low = omega arith;
      most = omega arith;
      place = begins_behind c.args.w (c.args.from + next) c.loop-into.at 4 _ _ s.place (omega arith) (omega arith);
      before = λ k l. e.before k (omega arith) ∙ s.before k l;
      same = λ us window. read_on us c.args.from c.args.done next (4 * c.lanes-size.result) c.loop-into.into c.four_into.new.into (s.same us window) e.before
          (λ k l. e.inside us (window_later v u c.args.w us s.reads s.forms window) k (omega arith));
      heap = e.reads.heap ∙ s.heap;
      reads = reads_trans v u x s.reads e.reads.view;
      forms = forms_trans v u x s.forms e.forms;
    }

pub loop-into-preserved : goal.loop-into-preserved
loop-into-preserved g c =
    let v : View = c.args.self.now.agent.seat.me.0 in
    let u : View = c.loop-into.self.agent.seat.me.0 in
    let x : View = c.word_into.new.self.agent.seat.me.0 in
    let s = c.loop-into.invariant in
    let e = c.word_into.ensures in
    let size = c.lanes-size.ensures in
    let next = c.loop-into.next in
    let most = s.most in
    let low = s.low in
    let room = c.loop-into-test.true in
    record {
      low = omega arith;
      most = omega arith;
      place = begins_behind c.args.w (c.args.from + next) c.loop-into.at 1 _ _ s.place (omega arith) (omega arith);
      before = λ k l. e.before k (omega arith) ∙ s.before k l;
      same = λ us window. read_on us c.args.from c.args.done next (c.lanes-size.result) c.loop-into.into c.word_into.new.into (s.same us window) e.before
          (λ k l. e.inside us (window_later v u c.args.w us s.reads s.forms window) k (omega arith));
      heap = e.reads.heap ∙ s.heap;
      reads = reads_trans v u x s.reads e.reads.view;
      forms = forms_trans v u x s.forms e.forms;
    }

pub overflow_add-at-in-loop-into : goal.overflow_add-at-in-loop-into
overflow_add-at-in-loop-into g c = let v : View = c.args.self.now.agent.seat.me.0 in let u : View = c.loop-into.self.agent.seat.me.0 in let s = c.loop-into.invariant in
    let within = c.requires.within in let t = c.loop-into-test.true in let size = c.lanes-size.ensures in let some = count_some c.args.w.wide in let most = s.most in
    let small = word_there u c.args.w (c.args.from + c.loop-into.next) c.loop-into.at c.loop-into.self.belongs.5 (frozen_later v u c.args.w c.requires.window.0 s.reads s.forms c.requires.window.1)
    (omega arith) s.place in omega arith

pub overflow_add-at-then-into-next : goal.overflow_add-at-then-into-next
overflow_add-at-then-into-next g c = let v : View = c.args.self.now.agent.seat.me.0 in let u : View = c.loop-into.self.agent.seat.me.0 in let s = c.loop-into.invariant in
    let within = c.requires.within in let t = c.loop-into-test.true in let size = c.lanes-size.ensures in let some = count_some c.args.w.wide in let most = s.most in
    let small = word_there u c.args.w (c.args.from + c.loop-into.next) c.loop-into.at c.loop-into.self.belongs.5 (frozen_later v u c.args.w c.requires.window.0 s.reads s.forms c.requires.window.1)
    (omega arith) s.place in omega arith

pub overflow_add-w : goal.overflow_add-w
overflow_add-w g c = let v : View = c.args.self.now.agent.seat.me.0 in let within = c.requires.within in let room = c.requires.room in let some = count_some c.args.w.wide in
    let small = place_small v c.args.w (c.args.from + c.args.done) c.args.self.now.belongs.5 (window_frozen v c.args.w c.requires.window.0 c.requires.window.1) (omega arith) in omega arith

pub overflow_add-at : goal.overflow_add-at
overflow_add-at g c = let v : View = c.args.self.now.agent.seat.me.0 in let within = c.requires.within in let room = c.requires.room in let some = count_some c.args.w.wide in
    rw c.word_and_lane-number.ensures.0
    (let small = word_small v c.args.w (c.args.from + c.args.done) c.args.self.now.belongs.5 (window_frozen v c.args.w c.requires.window.0 c.requires.window.1) (omega arith) in omega arith)
