use Rattle.std.proofs.Common.{◌≡◌, ◌∙◌, ℕ, Bool, ◌+◌, ◌*◌, ◌/◌, ◌<◌, ◌^◌, subst, arith}
use Rattle.js_units.specs.Lanes.{lane_count}
use Rattle.heap_rule.specs.declared.view.View.{View}
use Rattle.heap_read.proofs.Fronts.{count_small}
use Rattle.heap_read.proofs.Loaded.{reads_trans}
use Rattle.heap_read.proofs.Showing.{window_frozen, word_small}
use Rattle.heap_read.proofs.Turns.{begins_behind, begins_here, same_before, word_there}
use Rattle.heap_read.proofs.WindowLemmas.{forms_trans, frozen_later, window_later, window_short}
use Rattle.heap_read.proofs.reader.Reader.same_lanes.Goals as goal

pub overflow_add-left_at : goal.overflow_add-left_at
overflow_add-left_at g c = let v : View = c.args.self.now.agent.seat.me.0 in let within = c.requires.within in let some = c.if-most-eq0.false in
    rw c.word_and_lane-left_number.ensures.0
    (let small = word_small v c.args.a 0 c.args.self.now.belongs.5 (window_frozen v c.args.a c.requires.left.0 c.requires.left.1) (omega arith) in
    let none : c.args.a.offset + 0 ≡ c.args.a.offset = omega arith in
    let here = subst (λ (n : ℕ). c.args.a.start + n / lane_count c.args.a.wide < 2 ^ 29) none small in omega arith)

pub overflow_add-left_at-then-same_four : goal.overflow_add-left_at-then-same_four
overflow_add-left_at-then-same_four g c = let v : View = c.args.self.now.agent.seat.me.0 in let u : View = c.loop-i.self.agent.seat.me.0 in let s = c.loop-i.invariant in
    let within = c.requires.within in let t = c.loop-i-test.true in
    let small = word_there u c.args.a c.loop-i.i c.loop-i.left_at c.loop-i.self.belongs.5
    (frozen_later v u c.args.a c.requires.left.0 s.reads s.forms c.requires.left.1) (omega arith) s.left in omega arith

pub overflow_add-left_at-in-loop-i : goal.overflow_add-left_at-in-loop-i
overflow_add-left_at-in-loop-i g c = let v : View = c.args.self.now.agent.seat.me.0 in let u : View = c.loop-i.self.agent.seat.me.0 in let s = c.loop-i.invariant in
    let within = c.requires.within in let t = c.loop-i-test.true in
    let small = word_there u c.args.a c.loop-i.i c.loop-i.left_at c.loop-i.self.belongs.5
    (frozen_later v u c.args.a c.requires.left.0 s.reads s.forms c.requires.left.1) (omega arith) s.left in omega arith

pub overflow_add-right_at : goal.overflow_add-right_at
overflow_add-right_at g c = let v : View = c.args.self.now.agent.seat.me.0 in let within = c.requires.within in let some = c.if-most-eq0.false in
    rw c.word_and_lane-right_number.ensures.0
    (let small = word_small v c.args.b 0 c.args.self.now.belongs.5 (window_frozen v c.args.b c.requires.right.0 c.requires.right.1) (omega arith) in
    let none : c.args.b.offset + 0 ≡ c.args.b.offset = omega arith in
    let here = subst (λ (n : ℕ). c.args.b.start + n / lane_count c.args.b.wide < 2 ^ 29) none small in omega arith)

pub overflow_add-right_at-then-same_four : goal.overflow_add-right_at-then-same_four
overflow_add-right_at-then-same_four g c = let v : View = c.args.self.now.agent.seat.me.0 in let u : View = c.loop-i.self.agent.seat.me.0 in let s = c.loop-i.invariant in
    let within = c.requires.within in let t = c.loop-i-test.true in
    let small = word_there u c.args.b c.loop-i.i c.loop-i.right_at c.loop-i.self.belongs.5
    (frozen_later v u c.args.b c.requires.right.0 s.reads s.forms c.requires.right.1) (omega arith) s.right in omega arith

pub overflow_add-right_at-in-loop-i : goal.overflow_add-right_at-in-loop-i
overflow_add-right_at-in-loop-i g c = let v : View = c.args.self.now.agent.seat.me.0 in let u : View = c.loop-i.self.agent.seat.me.0 in let s = c.loop-i.invariant in
    let within = c.requires.within in let t = c.loop-i-test.true in
    let small = word_there u c.args.b c.loop-i.i c.loop-i.right_at c.loop-i.self.belongs.5
    (frozen_later v u c.args.b c.requires.right.0 s.reads s.forms c.requires.right.1) (omega arith) s.right in omega arith

pub same_four-requires-clause-left : goal.same_four-requires-clause-left
same_four-requires-clause-left g c = let v : View = c.args.self.now.agent.seat.me.0 in let u : View = c.loop-i.self.agent.seat.me.0 in let s = c.loop-i.invariant in
    (c.requires.left.0, window_later v u c.args.a c.requires.left.0 s.reads s.forms c.requires.left.1)

pub same_four-requires-clause-right : goal.same_four-requires-clause-right
same_four-requires-clause-right g c = let v : View = c.args.self.now.agent.seat.me.0 in let u : View = c.loop-i.self.agent.seat.me.0 in let s = c.loop-i.invariant in
    (c.requires.right.0, window_later v u c.args.b c.requires.right.0 s.reads s.forms c.requires.right.1)

pub same_word-requires-clause-left : goal.same_word-requires-clause-left
same_word-requires-clause-left g c = let v : View = c.args.self.now.agent.seat.me.0 in let u : View = c.loop-i.self.agent.seat.me.0 in let x : View = c.same_four.new.self.agent.seat.me.0 in
    let s = c.loop-i.invariant in let e = c.same_four.ensures in
    (c.requires.left.0, window_later v x c.args.a c.requires.left.0 (reads_trans v u x s.reads e.reads.view) (forms_trans v u x s.forms e.forms) c.requires.left.1)

pub same_word-requires-clause-right : goal.same_word-requires-clause-right
same_word-requires-clause-right g c = let v : View = c.args.self.now.agent.seat.me.0 in let u : View = c.loop-i.self.agent.seat.me.0 in let x : View = c.same_four.new.self.agent.seat.me.0 in
    let s = c.loop-i.invariant in let e = c.same_four.ensures in
    (c.requires.right.0, window_later v x c.args.b c.requires.right.0 (reads_trans v u x s.reads e.reads.view) (forms_trans v u x s.forms e.forms) c.requires.right.1)

pub loop-i-init : goal.loop-i-init
loop-i-init g c = let low = c.requires.lowest in record {
  left = begins_here c.args.a _ _ low.0 c.word_and_lane-left_number.ensures.0 (omega arith);
  right = begins_here c.args.b _ _ low.1 c.word_and_lane-right_number.ensures.0 (omega arith);
  same = λ us vs one two k l m. absurd (omega arith);
  heap = cc;
  reads = search;
  forms = search;
}

pub returns-then-not-same_word-clause-reads : goal.returns-then-not-same_word-clause-reads
returns-then-not-same_word-clause-reads g c = let v : View = c.args.self.now.agent.seat.me.0 in let u : View = c.loop-i.self.agent.seat.me.0 in
    let x : View = c.same_four.new.self.agent.seat.me.0 in let y : View = c.same_word.new.self.agent.seat.me.0 in
    let s = c.loop-i.invariant in let e = c.same_four.ensures in let f = c.same_word.ensures in
    record { heap = f.reads.heap ∙ (e.reads.heap ∙ s.heap); view = reads_trans v u y s.reads (reads_trans u x y e.reads.view f.reads.view) }

pub loop-i-preserved-then-same_four : goal.loop-i-preserved-then-same_four
loop-i-preserved-then-same_four g c = let v : View = c.args.self.now.agent.seat.me.0 in let u : View = c.loop-i.self.agent.seat.me.0 in
    let x : View = c.same_four.new.self.agent.seat.me.0 in let s = c.loop-i.invariant in let e = c.same_four.ensures in
    let size = c.lanes-size.ensures in let other = subst (λ (b : Bool). c.lanes-size.result ≡ lane_count b) c.requires.alike size in
    let i = c.loop-i.i in let t = c.if-same_four.true in
    record {
      left = begins_behind c.args.a i c.loop-i.left_at 4 _ _ s.left (omega arith) (omega arith);
      right = begins_behind c.args.b i c.loop-i.right_at 4 _ _ s.right (omega arith) (omega arith);
      same = λ us vs one two. same_before us vs i (4 * c.lanes-size.result) c.args.most (s.same us vs one two)
          (λ k l m. e.same t us vs (window_later v u c.args.a us s.reads s.forms one) (window_later v u c.args.b vs s.reads s.forms two) k (omega arith));
      heap = e.reads.heap ∙ s.heap;
      reads = reads_trans v u x s.reads e.reads.view;
      forms = forms_trans v u x s.forms e.forms;
    }

pub loop-i-preserved : goal.loop-i-preserved
loop-i-preserved g c = let v : View = c.args.self.now.agent.seat.me.0 in let u : View = c.loop-i.self.agent.seat.me.0 in
    let x : View = c.same_four.new.self.agent.seat.me.0 in let y : View = c.same_word.new.self.agent.seat.me.0 in
    let s = c.loop-i.invariant in let e = c.same_four.ensures in let f = c.same_word.ensures in
    let reads = reads_trans v u x s.reads e.reads.view in let forms = forms_trans v u x s.forms e.forms in
    let size = c.lanes-size.ensures in let other = subst (λ (b : Bool). c.lanes-size.result ≡ lane_count b) c.requires.alike size in
    let within = c.requires.within in let i = c.loop-i.i in
    record {
      left = begins_behind c.args.a i c.loop-i.left_at 1 _ _ s.left (omega arith) (omega arith);
      right = begins_behind c.args.b i c.loop-i.right_at 1 _ _ s.right (omega arith) (omega arith);
      same = λ us vs one two. same_before us vs i c.lanes-size.result c.args.most (s.same us vs one two)
          (λ k l m. f.same c.if-not-same_word.false us vs (window_later v x c.args.a us reads forms one) (window_later v x c.args.b vs reads forms two) k (omega arith) (omega arith) (omega arith));
      heap = f.reads.heap ∙ (e.reads.heap ∙ s.heap);
      reads = reads_trans v x y reads f.reads.view;
      forms = forms_trans v x y forms f.forms;
    }

pub overflow_add-i : goal.overflow_add-i
overflow_add-i g c = let short = window_short c.args.self.now.agent.seat.me.0 c.args.a c.requires.left.0 c.args.self.now.belongs.5 c.requires.left.1 in
    let w = c.requires.within in let t = c.loop-i-test.true in let size = c.lanes-size.ensures in
    let small = count_small c.args.a.wide in omega arith

pub overflow_add-i-in-loop-i : goal.overflow_add-i-in-loop-i
overflow_add-i-in-loop-i g c = let short = window_short c.args.self.now.agent.seat.me.0 c.args.a c.requires.left.0 c.args.self.now.belongs.5 c.requires.left.1 in
    let w = c.requires.within in let t = c.loop-i-test.true in let size = c.lanes-size.ensures in
    let small = count_small c.args.a.wide in omega arith
