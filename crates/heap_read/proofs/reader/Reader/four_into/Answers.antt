use Rattle.std.proofs.Common.{◌+◌, ◌∙◌, arith}
use Rattle.heap_rule.specs.declared.view.View.{View}
use Rattle.heap_read.proofs.Fronts.{count_some}
use Rattle.heap_read.proofs.Loaded.{reads_trans}
use Rattle.heap_read.proofs.Showing.{window_frozen}
use Rattle.heap_read.proofs.Turns.{begins_behind, read_then, word_there}
use Rattle.heap_read.proofs.WindowLemmas.{forms_trans, window_later}
use Rattle.heap_read.proofs.reader.Reader.four_into.Goals as goal

pub word_into-requires-2-clause-window : goal.word_into-requires-2-clause-window
word_into-requires-2-clause-window g c =
    let v : View = c.args.self.now.agent.seat.me.0 in
    let u1 : View = c.word_into.new.self.agent.seat.me.0 in let e1 = c.word_into.ensures in
    let r1 = e1.reads.view in let f1 = e1.forms in
    (c.requires.window.0, window_later v u1 c.args.w c.requires.window.0 r1 f1 c.requires.window.1)

pub word_into-requires-2-clause-at : goal.word_into-requires-2-clause-at
word_into-requires-2-clause-at g c =
    let size = c.lanes-size.ensures in begins_behind c.args.w c.args.i c.args.at 1 _ _ c.requires.at (omega arith) (omega arith)

pub word_into-requires-3-clause-window : goal.word_into-requires-3-clause-window
word_into-requires-3-clause-window g c =
    let v : View = c.args.self.now.agent.seat.me.0 in
    let u1 : View = c.word_into.new.self.agent.seat.me.0 in let e1 = c.word_into.ensures in
    let u2 : View = c.word_into-2.new.self.agent.seat.me.0 in let e2 = c.word_into-2.ensures in
    let r1 = e1.reads.view in let f1 = e1.forms in
    let r2 = reads_trans v u1 u2 r1 e2.reads.view in let f2 = forms_trans v u1 u2 f1 e2.forms in
    (c.requires.window.0, window_later v u2 c.args.w c.requires.window.0 r2 f2 c.requires.window.1)

pub word_into-requires-3-clause-at : goal.word_into-requires-3-clause-at
word_into-requires-3-clause-at g c =
    let size = c.lanes-size.ensures in begins_behind c.args.w c.args.i c.args.at 2 _ _ c.requires.at (omega arith) (omega arith)

pub word_into-requires-4-clause-window : goal.word_into-requires-4-clause-window
word_into-requires-4-clause-window g c =
    let v : View = c.args.self.now.agent.seat.me.0 in
    let u1 : View = c.word_into.new.self.agent.seat.me.0 in let e1 = c.word_into.ensures in
    let u2 : View = c.word_into-2.new.self.agent.seat.me.0 in let e2 = c.word_into-2.ensures in
    let u3 : View = c.word_into-3.new.self.agent.seat.me.0 in let e3 = c.word_into-3.ensures in
    let r1 = e1.reads.view in let f1 = e1.forms in
    let r2 = reads_trans v u1 u2 r1 e2.reads.view in let f2 = forms_trans v u1 u2 f1 e2.forms in
    let r3 = reads_trans v u2 u3 r2 e3.reads.view in let f3 = forms_trans v u2 u3 f2 e3.forms in
    (c.requires.window.0, window_later v u3 c.args.w c.requires.window.0 r3 f3 c.requires.window.1)

pub word_into-requires-4-clause-at : goal.word_into-requires-4-clause-at
word_into-requires-4-clause-at g c =
    let size = c.lanes-size.ensures in begins_behind c.args.w c.args.i c.args.at 3 _ _ c.requires.at (omega arith) (omega arith)

pub overflow_add-at : goal.overflow_add-at
overflow_add-at g c =
    let v : View = c.args.self.now.agent.seat.me.0 in
    let some = count_some c.args.w.wide in
    let within = c.requires.within in
    let frozen = window_frozen v c.args.w c.requires.window.0 c.requires.window.1 in
    let small = word_there v c.args.w c.args.i c.args.at c.args.self.now.belongs.5 frozen (omega arith) c.requires.at in
    omega arith

pub overflow_add-at-2 : goal.overflow_add-at-2
overflow_add-at-2 g c =
    let v : View = c.args.self.now.agent.seat.me.0 in
    let some = count_some c.args.w.wide in
    let within = c.requires.within in
    let frozen = window_frozen v c.args.w c.requires.window.0 c.requires.window.1 in
    let small = word_there v c.args.w c.args.i c.args.at c.args.self.now.belongs.5 frozen (omega arith) c.requires.at in
    omega arith

pub overflow_add-at-3 : goal.overflow_add-at-3
overflow_add-at-3 g c =
    let v : View = c.args.self.now.agent.seat.me.0 in
    let some = count_some c.args.w.wide in
    let within = c.requires.within in
    let frozen = window_frozen v c.args.w c.requires.window.0 c.requires.window.1 in
    let small = word_there v c.args.w c.args.i c.args.at c.args.self.now.belongs.5 frozen (omega arith) c.requires.at in
    omega arith

pub returns-clause-reads : goal.returns-clause-reads
returns-clause-reads g c =
    let v : View = c.args.self.now.agent.seat.me.0 in
    let u1 : View = c.word_into.new.self.agent.seat.me.0 in let e1 = c.word_into.ensures in
    let u2 : View = c.word_into-2.new.self.agent.seat.me.0 in let e2 = c.word_into-2.ensures in
    let u3 : View = c.word_into-3.new.self.agent.seat.me.0 in let e3 = c.word_into-3.ensures in
    let u4 : View = c.word_into-4.new.self.agent.seat.me.0 in let e4 = c.word_into-4.ensures in
    let r1 = e1.reads.view in let f1 = e1.forms in
    let r2 = reads_trans v u1 u2 r1 e2.reads.view in let f2 = forms_trans v u1 u2 f1 e2.forms in
    let r3 = reads_trans v u2 u3 r2 e3.reads.view in let f3 = forms_trans v u2 u3 f2 e3.forms in
    let r4 = reads_trans v u3 u4 r3 e4.reads.view in let f4 = forms_trans v u3 u4 f3 e4.forms in
    record { heap = e4.reads.heap ∙ (e3.reads.heap ∙ (e2.reads.heap ∙ e1.reads.heap)); view = r4 }

pub returns-clause-forms : goal.returns-clause-forms
returns-clause-forms g c =
    let v : View = c.args.self.now.agent.seat.me.0 in
    let u1 : View = c.word_into.new.self.agent.seat.me.0 in let e1 = c.word_into.ensures in
    let u2 : View = c.word_into-2.new.self.agent.seat.me.0 in let e2 = c.word_into-2.ensures in
    let u3 : View = c.word_into-3.new.self.agent.seat.me.0 in let e3 = c.word_into-3.ensures in
    let u4 : View = c.word_into-4.new.self.agent.seat.me.0 in let e4 = c.word_into-4.ensures in
    let r1 = e1.reads.view in let f1 = e1.forms in
    let r2 = reads_trans v u1 u2 r1 e2.reads.view in let f2 = forms_trans v u1 u2 f1 e2.forms in
    let r3 = reads_trans v u2 u3 r2 e3.reads.view in let f3 = forms_trans v u2 u3 f2 e3.forms in
    let r4 = reads_trans v u3 u4 r3 e4.reads.view in let f4 = forms_trans v u3 u4 f3 e4.forms in
    f4

pub returns-clause-before : goal.returns-clause-before
returns-clause-before g c k l =
    c.word_into-4.ensures.before k (omega arith)
    ∙ (c.word_into-3.ensures.before k (omega arith)
    ∙ (c.word_into-2.ensures.before k (omega arith) ∙ c.word_into.ensures.before k l))

pub returns-clause-inside : goal.returns-clause-inside
returns-clause-inside g c us window k l =
    let v : View = c.args.self.now.agent.seat.me.0 in
    let u1 : View = c.word_into.new.self.agent.seat.me.0 in let e1 = c.word_into.ensures in
    let u2 : View = c.word_into-2.new.self.agent.seat.me.0 in let e2 = c.word_into-2.ensures in
    let u3 : View = c.word_into-3.new.self.agent.seat.me.0 in let e3 = c.word_into-3.ensures in
    let r1 = e1.reads.view in let f1 = e1.forms in
    let r2 = reads_trans v u1 u2 r1 e2.reads.view in let f2 = forms_trans v u1 u2 f1 e2.forms in
    let r3 = reads_trans v u2 u3 r2 e3.reads.view in let f3 = forms_trans v u2 u3 f2 e3.forms in
    let e4 = c.word_into-4.ensures in
    let size = c.lanes-size.ensures in
    let n = c.lanes-size.result in
    let i = c.args.i in
    let next = c.args.next in
    let h1 = window_later v u1 c.args.w us r1 f1 window in
    let h2 = window_later v u2 c.args.w us r2 f2 window in
    let h3 = window_later v u3 c.args.w us r3 f3 window in
    let two = read_then us i next n n _ _ c.word_into.new.into c.word_into-2.new.into (omega arith) (omega arith)
    (λ j a. e1.inside us window j (omega arith)) e2.before (λ j a. e2.inside us h1 j (omega arith)) in
    let three = read_then us i next (n + n) n _ _ c.word_into-2.new.into c.word_into-3.new.into (omega arith) (omega arith)
    two e3.before (λ j a. e3.inside us h2 j (omega arith)) in
    read_then us i next (n + n + n) n _ _ c.word_into-3.new.into c.word_into-4.new.into (omega arith) (omega arith)
    three e4.before (λ j a. e4.inside us h3 j (omega arith)) k (omega arith)
