use Rattle.std.proofs.Common.{◌+◌, ◌∙◌, arith}
use Rattle.heap_rule.specs.declared.view.View.{View}
use Rattle.heap_read.proofs.Fronts.{count_some}
use Rattle.heap_read.proofs.Loaded.{reads_trans}
use Rattle.heap_read.proofs.Showing.{window_frozen}
use Rattle.heap_read.proofs.Turns.{begins_behind, lacks_then, word_there}
use Rattle.heap_read.proofs.WindowLemmas.{forms_trans, window_later}
use Rattle.heap_read.proofs.reader.Reader.lacks_in_four.Goals as goal

pub lacks_in_word-requires-2-clause-window : goal.lacks_in_word-requires-2-clause-window
lacks_in_word-requires-2-clause-window g c =
    let v : View = c.args.self.now.agent.seat.me.0 in
    let u1 : View = c.lacks_in_word.new.self.agent.seat.me.0 in let e1 = c.lacks_in_word.ensures in
    let r1 = e1.reads.view in let f1 = e1.forms in
    (c.requires.window.0, window_later v u1 c.args.w c.requires.window.0 r1 f1 c.requires.window.1)

pub lacks_in_word-requires-2-clause-at : goal.lacks_in_word-requires-2-clause-at
lacks_in_word-requires-2-clause-at g c =
    let size = c.lanes-size.ensures in begins_behind c.args.w c.args.i c.args.at 1 _ _ c.requires.at (omega arith) (omega arith)

pub lacks_in_word-requires-3-clause-window : goal.lacks_in_word-requires-3-clause-window
lacks_in_word-requires-3-clause-window g c =
    let v : View = c.args.self.now.agent.seat.me.0 in
    let u1 : View = c.lacks_in_word.new.self.agent.seat.me.0 in let e1 = c.lacks_in_word.ensures in
    let u2 : View = c.lacks_in_word-2.new.self.agent.seat.me.0 in let e2 = c.lacks_in_word-2.ensures in
    let r1 = e1.reads.view in let f1 = e1.forms in
    let r2 = reads_trans v u1 u2 r1 e2.reads.view in let f2 = forms_trans v u1 u2 f1 e2.forms in
    (c.requires.window.0, window_later v u2 c.args.w c.requires.window.0 r2 f2 c.requires.window.1)

pub lacks_in_word-requires-3-clause-at : goal.lacks_in_word-requires-3-clause-at
lacks_in_word-requires-3-clause-at g c =
    let size = c.lanes-size.ensures in begins_behind c.args.w c.args.i c.args.at 2 _ _ c.requires.at (omega arith) (omega arith)

pub lacks_in_word-requires-4-clause-window : goal.lacks_in_word-requires-4-clause-window
lacks_in_word-requires-4-clause-window g c =
    let v : View = c.args.self.now.agent.seat.me.0 in
    let u1 : View = c.lacks_in_word.new.self.agent.seat.me.0 in let e1 = c.lacks_in_word.ensures in
    let u2 : View = c.lacks_in_word-2.new.self.agent.seat.me.0 in let e2 = c.lacks_in_word-2.ensures in
    let u3 : View = c.lacks_in_word-3.new.self.agent.seat.me.0 in let e3 = c.lacks_in_word-3.ensures in
    let r1 = e1.reads.view in let f1 = e1.forms in
    let r2 = reads_trans v u1 u2 r1 e2.reads.view in let f2 = forms_trans v u1 u2 f1 e2.forms in
    let r3 = reads_trans v u2 u3 r2 e3.reads.view in let f3 = forms_trans v u2 u3 f2 e3.forms in
    (c.requires.window.0, window_later v u3 c.args.w c.requires.window.0 r3 f3 c.requires.window.1)

pub lacks_in_word-requires-4-clause-at : goal.lacks_in_word-requires-4-clause-at
lacks_in_word-requires-4-clause-at g c =
    let size = c.lanes-size.ensures in begins_behind c.args.w c.args.i c.args.at 3 _ _ c.requires.at (omega arith) (omega arith)

pub overflow_add-at : goal.overflow_add-at
overflow_add-at g c =
    let v : View = c.args.self.now.agent.seat.me.0 in
    let some = count_some c.args.w.wide in
    let within = c.requires.within in
    let frozen = window_frozen v c.args.w c.requires.window.0 c.requires.window.1 in
    let small = word_there v c.args.w c.args.i c.args.at c.args.self.now.belongs.5 frozen (omega arith) c.requires.at in
    omega arith

pub overflow_add-at-2 : goal.overflow_add-at-2
overflow_add-at-2 g c =
    let v : View = c.args.self.now.agent.seat.me.0 in
    let some = count_some c.args.w.wide in
    let within = c.requires.within in
    let frozen = window_frozen v c.args.w c.requires.window.0 c.requires.window.1 in
    let small = word_there v c.args.w c.args.i c.args.at c.args.self.now.belongs.5 frozen (omega arith) c.requires.at in
    omega arith

pub overflow_add-at-3 : goal.overflow_add-at-3
overflow_add-at-3 g c =
    let v : View = c.args.self.now.agent.seat.me.0 in
    let some = count_some c.args.w.wide in
    let within = c.requires.within in
    let frozen = window_frozen v c.args.w c.requires.window.0 c.requires.window.1 in
    let small = word_there v c.args.w c.args.i c.args.at c.args.self.now.belongs.5 frozen (omega arith) c.requires.at in
    omega arith

pub returns-then-not-lacks_in_word-2-clause-reads : goal.returns-then-not-lacks_in_word-2-clause-reads
returns-then-not-lacks_in_word-2-clause-reads g c =
    let v : View = c.args.self.now.agent.seat.me.0 in
    let u1 : View = c.lacks_in_word.new.self.agent.seat.me.0 in let e1 = c.lacks_in_word.ensures in
    let u2 : View = c.lacks_in_word-2.new.self.agent.seat.me.0 in let e2 = c.lacks_in_word-2.ensures in
    let r1 = e1.reads.view in let f1 = e1.forms in
    let r2 = reads_trans v u1 u2 r1 e2.reads.view in let f2 = forms_trans v u1 u2 f1 e2.forms in
    record { heap = e2.reads.heap ∙ e1.reads.heap; view = r2 }

pub returns-then-not-lacks_in_word-3-clause-reads : goal.returns-then-not-lacks_in_word-3-clause-reads
returns-then-not-lacks_in_word-3-clause-reads g c =
    let v : View = c.args.self.now.agent.seat.me.0 in
    let u1 : View = c.lacks_in_word.new.self.agent.seat.me.0 in let e1 = c.lacks_in_word.ensures in
    let u2 : View = c.lacks_in_word-2.new.self.agent.seat.me.0 in let e2 = c.lacks_in_word-2.ensures in
    let u3 : View = c.lacks_in_word-3.new.self.agent.seat.me.0 in let e3 = c.lacks_in_word-3.ensures in
    let r1 = e1.reads.view in let f1 = e1.forms in
    let r2 = reads_trans v u1 u2 r1 e2.reads.view in let f2 = forms_trans v u1 u2 f1 e2.forms in
    let r3 = reads_trans v u2 u3 r2 e3.reads.view in let f3 = forms_trans v u2 u3 f2 e3.forms in
    record { heap = e3.reads.heap ∙ (e2.reads.heap ∙ e1.reads.heap); view = r3 }

pub returns-clause-reads : goal.returns-clause-reads
returns-clause-reads g c =
    let v : View = c.args.self.now.agent.seat.me.0 in
    let u1 : View = c.lacks_in_word.new.self.agent.seat.me.0 in let e1 = c.lacks_in_word.ensures in
    let u2 : View = c.lacks_in_word-2.new.self.agent.seat.me.0 in let e2 = c.lacks_in_word-2.ensures in
    let u3 : View = c.lacks_in_word-3.new.self.agent.seat.me.0 in let e3 = c.lacks_in_word-3.ensures in
    let u4 : View = c.lacks_in_word-4.new.self.agent.seat.me.0 in let e4 = c.lacks_in_word-4.ensures in
    let r1 = e1.reads.view in let f1 = e1.forms in
    let r2 = reads_trans v u1 u2 r1 e2.reads.view in let f2 = forms_trans v u1 u2 f1 e2.forms in
    let r3 = reads_trans v u2 u3 r2 e3.reads.view in let f3 = forms_trans v u2 u3 f2 e3.forms in
    let r4 = reads_trans v u3 u4 r3 e4.reads.view in let f4 = forms_trans v u3 u4 f3 e4.forms in
    record { heap = e4.reads.heap ∙ (e3.reads.heap ∙ (e2.reads.heap ∙ e1.reads.heap)); view = r4 }

pub returns-clause-none : goal.returns-clause-none
returns-clause-none g c t us window k l =
    let v : View = c.args.self.now.agent.seat.me.0 in
    let u1 : View = c.lacks_in_word.new.self.agent.seat.me.0 in let e1 = c.lacks_in_word.ensures in
    let u2 : View = c.lacks_in_word-2.new.self.agent.seat.me.0 in let e2 = c.lacks_in_word-2.ensures in
    let u3 : View = c.lacks_in_word-3.new.self.agent.seat.me.0 in let e3 = c.lacks_in_word-3.ensures in
    let r1 = e1.reads.view in let f1 = e1.forms in
    let r2 = reads_trans v u1 u2 r1 e2.reads.view in let f2 = forms_trans v u1 u2 f1 e2.forms in
    let r3 = reads_trans v u2 u3 r2 e3.reads.view in let f3 = forms_trans v u2 u3 f2 e3.forms in
    let e4 = c.lacks_in_word-4.ensures in
    let size = c.lanes-size.ensures in
    let n = c.lanes-size.result in
    let i = c.args.i in
    let w1 = window_later v u1 c.args.w us r1 f1 window in
    let w2 = window_later v u2 c.args.w us r2 f2 window in
    let w3 = window_later v u3 c.args.w us r3 f3 window in
    let two = lacks_then us c.args.unit i n n _ (omega arith)
    (λ j a. e1.none c.if-not-lacks_in_word.false us window j (omega arith)) (λ j a. e2.none c.if-not-lacks_in_word-2.false us w1 j (omega arith)) in
    let three = lacks_then us c.args.unit i (n + n) n _ (omega arith) two (λ j a. e3.none c.if-not-lacks_in_word-3.false us w2 j (omega arith)) in
    lacks_then us c.args.unit i (n + n + n) n _ (omega arith) three (λ j a. e4.none t us w3 j (omega arith)) k (omega arith)
