use Rattle.std.proofs.Common.{◌∙◌, sym, arith}
use Rattle.heap_rule.specs.declared.view.View.{View}
use Rattle.heap_read.proofs.Fronts.{one_more}
use Rattle.heap_read.proofs.Loaded.{reads_trans}
use Rattle.heap_read.proofs.WindowLemmas.{forms_trans, frozen_later, window_later}
use Rattle.heap_read.proofs.reader.Reader.first_other.Goals as goal

pub unit_in-left-requires-clause-frozen : goal.unit_in-left-requires-clause-frozen
unit_in-left-requires-clause-frozen g c = let v : View = c.args.self.now.agent.seat.me.0 in let u : View = c.loop-i.self.agent.seat.me.0 in let s = c.loop-i.invariant in
    frozen_later v u c.args.a c.requires.left.0 s.reads s.forms c.requires.left.1

pub unit_in-right-requires-clause-frozen : goal.unit_in-right-requires-clause-frozen
unit_in-right-requires-clause-frozen g c = let v : View = c.args.self.now.agent.seat.me.0 in let u : View = c.loop-i.self.agent.seat.me.0 in
    let x : View = c.unit_in-left.new.self.agent.seat.me.0 in
    let s = c.loop-i.invariant in let e = c.unit_in-left.ensures in
    frozen_later v x c.args.b c.requires.right.0 (reads_trans v u x s.reads e.reads.view) (forms_trans v u x s.forms e.forms) c.requires.right.1

pub returns-then-left-right-clause-reads : goal.returns-then-left-right-clause-reads
returns-then-left-right-clause-reads g c = let v : View = c.args.self.now.agent.seat.me.0 in let u : View = c.loop-i.self.agent.seat.me.0 in
    let x : View = c.unit_in-left.new.self.agent.seat.me.0 in let y : View = c.unit_in-right.new.self.agent.seat.me.0 in
    let s = c.loop-i.invariant in let e = c.unit_in-left.ensures in let f = c.unit_in-right.ensures in
    record { heap = f.reads.heap ∙ (e.reads.heap ∙ s.heap); view = reads_trans v u y s.reads (reads_trans u x y e.reads.view f.reads.view) }

pub returns-then-left-right-clause-other : goal.returns-then-left-right-clause-other
returns-then-left-right-clause-other g c us vs left right l same = let v : View = c.args.self.now.agent.seat.me.0 in let u : View = c.loop-i.self.agent.seat.me.0 in
    let x : View = c.unit_in-left.new.self.agent.seat.me.0 in
    let s = c.loop-i.invariant in let e = c.unit_in-left.ensures in let f = c.unit_in-right.ensures in
    let one = e.unit us (window_later v u c.args.a us s.reads s.forms left) in
    let other = f.unit vs (window_later v x c.args.b vs (reads_trans v u x s.reads e.reads.view) (forms_trans v u x s.forms e.forms) right) in
    c.if-left-right.true (one ∙ (same ∙ sym other))

pub loop-i-preserved : goal.loop-i-preserved
loop-i-preserved g c = let v : View = c.args.self.now.agent.seat.me.0 in let u : View = c.loop-i.self.agent.seat.me.0 in
    let x : View = c.unit_in-left.new.self.agent.seat.me.0 in let y : View = c.unit_in-right.new.self.agent.seat.me.0 in
    let s = c.loop-i.invariant in let e = c.unit_in-left.ensures in let f = c.unit_in-right.ensures in let t = c.loop-i-test.true in
    record {
      most = omega arith;
      same = λ us vs left right k l.
          let one = e.unit us (window_later v u c.args.a us s.reads s.forms left) in
          let other = f.unit vs (window_later v x c.args.b vs (reads_trans v u x s.reads e.reads.view) (forms_trans v u x s.forms e.forms) right) in
          one_more us vs c.loop-i.i (sym one ∙ (c.if-left-right.false ∙ other)) (s.same us vs left right) k l;
      heap = f.reads.heap ∙ (e.reads.heap ∙ s.heap);
      reads = reads_trans v u y s.reads (reads_trans u x y e.reads.view f.reads.view);
      forms = forms_trans v u y s.forms (forms_trans u x y e.forms f.forms);
    }
