use Rattle.std.proofs.Common.{◌≡◌, ◌+◌, ◌∙◌, Bool, subst, arith}
use Rattle.js_units.specs.Lanes.{lane_count}
use Rattle.heap_rule.specs.declared.view.View.{View}
use Rattle.heap_read.proofs.Loaded.{reads_trans}
use Rattle.heap_read.proofs.Showing.{window_frozen}
use Rattle.heap_read.proofs.Turns.{begins_behind, same_then, word_there}
use Rattle.heap_read.proofs.WindowLemmas.{forms_trans, window_later}
use Rattle.heap_read.proofs.reader.Reader.same_four.Goals as goal

pub same_word-requires-2-clause-left : goal.same_word-requires-2-clause-left
same_word-requires-2-clause-left g c =
    let v : View = c.args.self.now.agent.seat.me.0 in
    let u1 : View = c.same_word.new.self.agent.seat.me.0 in let e1 = c.same_word.ensures in
    let r1 = e1.reads.view in let f1 = e1.forms in
    (c.requires.left.0, window_later v u1 c.args.a c.requires.left.0 r1 f1 c.requires.left.1)

pub same_word-requires-2-clause-right : goal.same_word-requires-2-clause-right
same_word-requires-2-clause-right g c =
    let v : View = c.args.self.now.agent.seat.me.0 in
    let u1 : View = c.same_word.new.self.agent.seat.me.0 in let e1 = c.same_word.ensures in
    let r1 = e1.reads.view in let f1 = e1.forms in
    (c.requires.right.0, window_later v u1 c.args.b c.requires.right.0 r1 f1 c.requires.right.1)

pub same_word-requires-2-clause-places : goal.same_word-requires-2-clause-places
same_word-requires-2-clause-places g c =
    let size = c.lanes-size.ensures in
    let other = subst (λ (b : Bool). c.lanes-size.result ≡ lane_count b) c.requires.alike size in
    let p = c.requires.places in (
      begins_behind c.args.a c.args.i c.args.left 1 _ _ p.0 (omega arith) (omega arith),
      begins_behind c.args.b c.args.i c.args.right 1 _ _ p.1 (omega arith) (omega arith),
    )

pub same_word-requires-3-clause-left : goal.same_word-requires-3-clause-left
same_word-requires-3-clause-left g c =
    let v : View = c.args.self.now.agent.seat.me.0 in
    let u1 : View = c.same_word.new.self.agent.seat.me.0 in let e1 = c.same_word.ensures in
    let u2 : View = c.same_word-2.new.self.agent.seat.me.0 in let e2 = c.same_word-2.ensures in
    let r1 = e1.reads.view in let f1 = e1.forms in
    let r2 = reads_trans v u1 u2 r1 e2.reads.view in let f2 = forms_trans v u1 u2 f1 e2.forms in
    (c.requires.left.0, window_later v u2 c.args.a c.requires.left.0 r2 f2 c.requires.left.1)

pub same_word-requires-3-clause-right : goal.same_word-requires-3-clause-right
same_word-requires-3-clause-right g c =
    let v : View = c.args.self.now.agent.seat.me.0 in
    let u1 : View = c.same_word.new.self.agent.seat.me.0 in let e1 = c.same_word.ensures in
    let u2 : View = c.same_word-2.new.self.agent.seat.me.0 in let e2 = c.same_word-2.ensures in
    let r1 = e1.reads.view in let f1 = e1.forms in
    let r2 = reads_trans v u1 u2 r1 e2.reads.view in let f2 = forms_trans v u1 u2 f1 e2.forms in
    (c.requires.right.0, window_later v u2 c.args.b c.requires.right.0 r2 f2 c.requires.right.1)

pub same_word-requires-3-clause-places : goal.same_word-requires-3-clause-places
same_word-requires-3-clause-places g c =
    let size = c.lanes-size.ensures in
    let other = subst (λ (b : Bool). c.lanes-size.result ≡ lane_count b) c.requires.alike size in
    let p = c.requires.places in (
      begins_behind c.args.a c.args.i c.args.left 2 _ _ p.0 (omega arith) (omega arith),
      begins_behind c.args.b c.args.i c.args.right 2 _ _ p.1 (omega arith) (omega arith),
    )

pub same_word-requires-4-clause-left : goal.same_word-requires-4-clause-left
same_word-requires-4-clause-left g c =
    let v : View = c.args.self.now.agent.seat.me.0 in
    let u1 : View = c.same_word.new.self.agent.seat.me.0 in let e1 = c.same_word.ensures in
    let u2 : View = c.same_word-2.new.self.agent.seat.me.0 in let e2 = c.same_word-2.ensures in
    let u3 : View = c.same_word-3.new.self.agent.seat.me.0 in let e3 = c.same_word-3.ensures in
    let r1 = e1.reads.view in let f1 = e1.forms in
    let r2 = reads_trans v u1 u2 r1 e2.reads.view in let f2 = forms_trans v u1 u2 f1 e2.forms in
    let r3 = reads_trans v u2 u3 r2 e3.reads.view in let f3 = forms_trans v u2 u3 f2 e3.forms in
    (c.requires.left.0, window_later v u3 c.args.a c.requires.left.0 r3 f3 c.requires.left.1)

pub same_word-requires-4-clause-right : goal.same_word-requires-4-clause-right
same_word-requires-4-clause-right g c =
    let v : View = c.args.self.now.agent.seat.me.0 in
    let u1 : View = c.same_word.new.self.agent.seat.me.0 in let e1 = c.same_word.ensures in
    let u2 : View = c.same_word-2.new.self.agent.seat.me.0 in let e2 = c.same_word-2.ensures in
    let u3 : View = c.same_word-3.new.self.agent.seat.me.0 in let e3 = c.same_word-3.ensures in
    let r1 = e1.reads.view in let f1 = e1.forms in
    let r2 = reads_trans v u1 u2 r1 e2.reads.view in let f2 = forms_trans v u1 u2 f1 e2.forms in
    let r3 = reads_trans v u2 u3 r2 e3.reads.view in let f3 = forms_trans v u2 u3 f2 e3.forms in
    (c.requires.right.0, window_later v u3 c.args.b c.requires.right.0 r3 f3 c.requires.right.1)

pub same_word-requires-4-clause-places : goal.same_word-requires-4-clause-places
same_word-requires-4-clause-places g c =
    let size = c.lanes-size.ensures in
    let other = subst (λ (b : Bool). c.lanes-size.result ≡ lane_count b) c.requires.alike size in
    let p = c.requires.places in (
      begins_behind c.args.a c.args.i c.args.left 3 _ _ p.0 (omega arith) (omega arith),
      begins_behind c.args.b c.args.i c.args.right 3 _ _ p.1 (omega arith) (omega arith),
    )

pub overflow_add-left : goal.overflow_add-left
overflow_add-left g c =
    let v : View = c.args.self.now.agent.seat.me.0 in
    let within = c.requires.within in
    let frozen = window_frozen v c.args.a c.requires.left.0 c.requires.left.1 in
    let small = word_there v c.args.a c.args.i c.args.left c.args.self.now.belongs.5 frozen (omega arith) c.requires.places.0 in
    omega arith

pub overflow_add-left-2 : goal.overflow_add-left-2
overflow_add-left-2 g c =
    let v : View = c.args.self.now.agent.seat.me.0 in
    let within = c.requires.within in
    let frozen = window_frozen v c.args.a c.requires.left.0 c.requires.left.1 in
    let small = word_there v c.args.a c.args.i c.args.left c.args.self.now.belongs.5 frozen (omega arith) c.requires.places.0 in
    omega arith

pub overflow_add-left-3 : goal.overflow_add-left-3
overflow_add-left-3 g c =
    let v : View = c.args.self.now.agent.seat.me.0 in
    let within = c.requires.within in
    let frozen = window_frozen v c.args.a c.requires.left.0 c.requires.left.1 in
    let small = word_there v c.args.a c.args.i c.args.left c.args.self.now.belongs.5 frozen (omega arith) c.requires.places.0 in
    omega arith

pub overflow_add-right : goal.overflow_add-right
overflow_add-right g c =
    let v : View = c.args.self.now.agent.seat.me.0 in
    let within = c.requires.within in
    let frozen = window_frozen v c.args.b c.requires.right.0 c.requires.right.1 in
    let small = word_there v c.args.b c.args.i c.args.right c.args.self.now.belongs.5 frozen (omega arith) c.requires.places.1 in
    omega arith

pub overflow_add-right-2 : goal.overflow_add-right-2
overflow_add-right-2 g c =
    let v : View = c.args.self.now.agent.seat.me.0 in
    let within = c.requires.within in
    let frozen = window_frozen v c.args.b c.requires.right.0 c.requires.right.1 in
    let small = word_there v c.args.b c.args.i c.args.right c.args.self.now.belongs.5 frozen (omega arith) c.requires.places.1 in
    omega arith

pub overflow_add-right-3 : goal.overflow_add-right-3
overflow_add-right-3 g c =
    let v : View = c.args.self.now.agent.seat.me.0 in
    let within = c.requires.within in
    let frozen = window_frozen v c.args.b c.requires.right.0 c.requires.right.1 in
    let small = word_there v c.args.b c.args.i c.args.right c.args.self.now.belongs.5 frozen (omega arith) c.requires.places.1 in
    omega arith

pub returns-then-not-same_word-2-clause-reads : goal.returns-then-not-same_word-2-clause-reads
returns-then-not-same_word-2-clause-reads g c =
    let v : View = c.args.self.now.agent.seat.me.0 in
    let u1 : View = c.same_word.new.self.agent.seat.me.0 in let e1 = c.same_word.ensures in
    let u2 : View = c.same_word-2.new.self.agent.seat.me.0 in let e2 = c.same_word-2.ensures in
    let r1 = e1.reads.view in let f1 = e1.forms in
    let r2 = reads_trans v u1 u2 r1 e2.reads.view in let f2 = forms_trans v u1 u2 f1 e2.forms in
    record { heap = e2.reads.heap ∙ e1.reads.heap; view = r2 }

pub returns-then-not-same_word-3-clause-reads : goal.returns-then-not-same_word-3-clause-reads
returns-then-not-same_word-3-clause-reads g c =
    let v : View = c.args.self.now.agent.seat.me.0 in
    let u1 : View = c.same_word.new.self.agent.seat.me.0 in let e1 = c.same_word.ensures in
    let u2 : View = c.same_word-2.new.self.agent.seat.me.0 in let e2 = c.same_word-2.ensures in
    let u3 : View = c.same_word-3.new.self.agent.seat.me.0 in let e3 = c.same_word-3.ensures in
    let r1 = e1.reads.view in let f1 = e1.forms in
    let r2 = reads_trans v u1 u2 r1 e2.reads.view in let f2 = forms_trans v u1 u2 f1 e2.forms in
    let r3 = reads_trans v u2 u3 r2 e3.reads.view in let f3 = forms_trans v u2 u3 f2 e3.forms in
    record { heap = e3.reads.heap ∙ (e2.reads.heap ∙ e1.reads.heap); view = r3 }

pub returns-clause-reads : goal.returns-clause-reads
returns-clause-reads g c =
    let v : View = c.args.self.now.agent.seat.me.0 in
    let u1 : View = c.same_word.new.self.agent.seat.me.0 in let e1 = c.same_word.ensures in
    let u2 : View = c.same_word-2.new.self.agent.seat.me.0 in let e2 = c.same_word-2.ensures in
    let u3 : View = c.same_word-3.new.self.agent.seat.me.0 in let e3 = c.same_word-3.ensures in
    let u4 : View = c.same_word-4.new.self.agent.seat.me.0 in let e4 = c.same_word-4.ensures in
    let r1 = e1.reads.view in let f1 = e1.forms in
    let r2 = reads_trans v u1 u2 r1 e2.reads.view in let f2 = forms_trans v u1 u2 f1 e2.forms in
    let r3 = reads_trans v u2 u3 r2 e3.reads.view in let f3 = forms_trans v u2 u3 f2 e3.forms in
    let r4 = reads_trans v u3 u4 r3 e4.reads.view in let f4 = forms_trans v u3 u4 f3 e4.forms in
    record { heap = e4.reads.heap ∙ (e3.reads.heap ∙ (e2.reads.heap ∙ e1.reads.heap)); view = r4 }

pub returns-clause-same : goal.returns-clause-same
returns-clause-same g c t us vs left right k l =
    let v : View = c.args.self.now.agent.seat.me.0 in
    let u1 : View = c.same_word.new.self.agent.seat.me.0 in let e1 = c.same_word.ensures in
    let u2 : View = c.same_word-2.new.self.agent.seat.me.0 in let e2 = c.same_word-2.ensures in
    let u3 : View = c.same_word-3.new.self.agent.seat.me.0 in let e3 = c.same_word-3.ensures in
    let r1 = e1.reads.view in let f1 = e1.forms in
    let r2 = reads_trans v u1 u2 r1 e2.reads.view in let f2 = forms_trans v u1 u2 f1 e2.forms in
    let r3 = reads_trans v u2 u3 r2 e3.reads.view in let f3 = forms_trans v u2 u3 f2 e3.forms in
    let e4 = c.same_word-4.ensures in
    let size = c.lanes-size.ensures in
    let other = subst (λ (b : Bool). c.lanes-size.result ≡ lane_count b) c.requires.alike size in
    let n = c.lanes-size.result in
    let i = c.args.i in
    let room = c.if-most-i.false in
    let within = c.requires.within in
    let a1 = window_later v u1 c.args.a us r1 f1 left in let b1 = window_later v u1 c.args.b vs r1 f1 right in
    let a2 = window_later v u2 c.args.a us r2 f2 left in let b2 = window_later v u2 c.args.b vs r2 f2 right in
    let a3 = window_later v u3 c.args.a us r3 f3 left in let b3 = window_later v u3 c.args.b vs r3 f3 right in
    let two = same_then us vs i n n _ (omega arith)
    (λ j a. e1.same c.if-not-same_word.false us vs left right j (omega arith) (omega arith) (omega arith))
    (λ j a. e2.same c.if-not-same_word-2.false us vs a1 b1 j (omega arith) (omega arith) (omega arith)) in
    let three = same_then us vs i (n + n) n _ (omega arith) two
    (λ j a. e3.same c.if-not-same_word-3.false us vs a2 b2 j (omega arith) (omega arith) (omega arith)) in
    same_then us vs i (n + n + n) n _ (omega arith) three
    (λ j a. e4.same t us vs a3 b3 j (omega arith) (omega arith) (omega arith)) k (omega arith)
