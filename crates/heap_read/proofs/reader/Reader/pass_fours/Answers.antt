use Rattle.std.proofs.Common.{◌∙◌, ◌+◌, ◌*◌, arith}
use Rattle.heap_rule.specs.declared.view.View.{View}
use Rattle.heap_read.proofs.Fronts.{count_small, count_some}
use Rattle.heap_read.proofs.Loaded.{reads_trans}
use Rattle.heap_read.proofs.Showing.{place_small, window_frozen, word_small}
use Rattle.heap_read.proofs.Turns.{begins_behind, word_there}
use Rattle.heap_read.proofs.WindowLemmas.{forms_trans, frozen_later, none_behind, none_on, window_later, window_short}
use Rattle.heap_read.proofs.reader.Reader.pass_fours.Goals as goal

pub overflow_add-w : goal.overflow_add-w
overflow_add-w g c = let v : View = c.args.self.now.agent.seat.me.0 in let room = c.if-w-from.false in let size = c.lanes-size.ensures in let some = count_some c.args.w.wide in
    let a = place_small v c.args.w c.args.from c.args.self.now.belongs.5 (window_frozen v c.args.w c.requires.window.0 c.requires.window.1) (omega arith) in omega arith

pub overflow_add-at : goal.overflow_add-at
overflow_add-at g c = let v : View = c.args.self.now.agent.seat.me.0 in let room = c.if-w-from.false in let size = c.lanes-size.ensures in let some = count_some c.args.w.wide in
    rw c.word_and_lane-number.ensures.0
    (let a = word_small v c.args.w c.args.from c.args.self.now.belongs.5 (window_frozen v c.args.w c.requires.window.0 c.requires.window.1) (omega arith) in omega arith)

pub overflow_add-at-in-loop-i : goal.overflow_add-at-in-loop-i
overflow_add-at-in-loop-i g c = let v : View = c.args.self.now.agent.seat.me.0 in let u : View = c.loop-i.self.agent.seat.me.0 in let s = c.loop-i.invariant in
    let t = c.loop-i-test.true in let size = c.lanes-size.ensures in let some = count_some c.args.w.wide in
    let small = word_there u c.args.w c.loop-i.i c.loop-i.at c.loop-i.self.belongs.5
    (frozen_later v u c.args.w c.requires.window.0 s.reads s.forms c.requires.window.1) (omega arith) s.place in omega arith

pub overflow_add-i : goal.overflow_add-i
overflow_add-i g c = let short = window_short c.args.self.now.agent.seat.me.0 c.args.w c.requires.window.0 c.args.self.now.belongs.5 c.requires.window.1 in
    let s = c.loop-i.invariant in let most = s.most in let size = c.lanes-size.ensures in let small = count_small c.args.w.wide in omega arith

pub loop-i-init : goal.loop-i-init
loop-i-init g c = let within = c.requires.within in let zero_lane = c.if-lane-gt0.false in let is = c.word_and_lane-number.ensures.1 in record {
  low = omega arith;
  most = omega arith;
  place = record { lowest = omega arith; place = omega arith };
  none = λ us window k a b e. absurd (omega arith);
  heap = cc;
  reads = search;
  forms = search;
}

pub lacks_in_four-requires-clause-window : goal.lacks_in_four-requires-clause-window
lacks_in_four-requires-clause-window g c = let v : View = c.args.self.now.agent.seat.me.0 in let u : View = c.loop-i.self.agent.seat.me.0 in let s = c.loop-i.invariant in
    (c.requires.window.0, window_later v u c.args.w c.requires.window.0 s.reads s.forms c.requires.window.1)

pub loop-i-preserved : goal.loop-i-preserved
loop-i-preserved g c = let v : View = c.args.self.now.agent.seat.me.0 in let u : View = c.loop-i.self.agent.seat.me.0 in
    let x : View = c.lacks_in_four.new.self.agent.seat.me.0 in let s = c.loop-i.invariant in let e = c.lacks_in_four.ensures in
    let size = c.lanes-size.ensures in let i = c.loop-i.i in let t = c.loop-i-test.true in let low = s.low in let most = s.most in
    record {
      low = omega arith;
      most = omega arith;
      place = begins_behind c.args.w i c.loop-i.at 4 _ _ s.place (omega arith) (omega arith);
      none = λ us window. none_on us c.args.unit c.args.from i (i + 4 * c.lanes-size.result) (s.none us window)
          (none_behind us c.args.unit i (4 * c.lanes-size.result)
          (λ k l. e.none c.if-not-lacks_in_four.false us (window_later v u c.args.w us s.reads s.forms window) k (omega arith)));
      heap = e.reads.heap ∙ s.heap;
      reads = reads_trans v u x s.reads e.reads.view;
      forms = forms_trans v u x s.forms e.forms;
    }

pub returns-then-not-lacks_in_four-clause-reads : goal.returns-then-not-lacks_in_four-clause-reads
returns-then-not-lacks_in_four-clause-reads g c = let v : View = c.args.self.now.agent.seat.me.0 in let u : View = c.loop-i.self.agent.seat.me.0 in
    let x : View = c.lacks_in_four.new.self.agent.seat.me.0 in let s = c.loop-i.invariant in let e = c.lacks_in_four.ensures in
    record { heap = e.reads.heap ∙ s.heap; view = reads_trans v u x s.reads e.reads.view }
