use Rattle.std.proofs.Common.{◌≡◌, ◌∙◌, ℕ, ◌+◌, ◌<◌, arith}
use Rattle.heap_rule.specs.declared.view.View.{View}
use Rattle.heap_read.specs.Written.{HasAt, HoldsUnits, held_unit}
use Rattle.heap_read.proofs.Comparison.{compared_on, compared_other, frozen_window_stays}
use Rattle.heap_read.proofs.Loaded.{reads_trans}
use Rattle.heap_read.proofs.Showing.{forms_held}
use Rattle.heap_read.proofs.WindowLemmas.{forms_trans, frozen_later, window_later}
use Rattle.heap_read.proofs.reader.Reader.same_units.Goals as goal

pub hold_in-left-requires-clause-frozen : goal.hold_in-left-requires-clause-frozen
hold_in-left-requires-clause-frozen g c = let v : View = c.args.self.now.agent.seat.me.0 in let u : View = c.loop-i.self.agent.seat.me.0 in let s = c.loop-i.invariant in
    frozen_later v u c.args.a c.requires.window.0 s.reads s.forms c.requires.window.1

pub hold_in-right-requires-clause-frozen : goal.hold_in-right-requires-clause-frozen
hold_in-right-requires-clause-frozen g c = let v : View = c.args.self.now.agent.seat.me.0 in let u : View = c.loop-i.self.agent.seat.me.0 in let x : View = c.hold_in-left.new.self.agent.seat.me.0 in
    let s = c.loop-i.invariant in let e = c.hold_in-left.ensures in let r = reads_trans v u x s.reads e.reads.view in let f = forms_trans v u x s.forms e.forms in
    frozen_window_stays v x c.args.b (forms_held v x f.0) r.known c.requires.frozen

pub returns-then-not-has_same_units-clause-reads : goal.returns-then-not-has_same_units-clause-reads
returns-then-not-has_same_units-clause-reads g c = let v : View = c.args.self.now.agent.seat.me.0 in
    let u : View = c.loop-i.self.agent.seat.me.0 in let x : View = c.hold_in-left.new.self.agent.seat.me.0 in
    let y : View = c.hold_in-right.new.self.agent.seat.me.0 in
    let s = c.loop-i.invariant in let e = c.hold_in-left.ensures in let f = c.hold_in-right.ensures in
    record { heap = f.reads.heap ∙ (e.reads.heap ∙ s.heap); view = reads_trans v u y s.reads (reads_trans u x y e.reads.view f.reads.view) }

pub returns-then-not-has_same_units-clause-same : goal.returns-then-not-has_same_units-clause-same
returns-then-not-has_same_units-clause-same g c us window = let v : View = c.args.self.now.agent.seat.me.0 in
    let u : View = c.loop-i.self.agent.seat.me.0 in let x : View = c.hold_in-left.new.self.agent.seat.me.0 in
    let y : View = c.hold_in-right.new.self.agent.seat.me.0 in
    let s = c.loop-i.invariant in let e = c.hold_in-left.ensures in let f = c.hold_in-right.ensures in let has = e.has in
    let has' = f.has in let m = c.min-count.ensures in let n = c.count_from.ensures in let n' = c.count_from-in-loop-i.ensures in
    let here : HoldsUnits us c.hold_in-left.result = e.holds us (window_later v u c.args.a us s.reads s.forms window) in
    let al : HasAt c.hold_in-left.result c.loop-i.i c.min-count.result = record { lanes = e.held.lanes; low = has.0; high = omega arith } in
    let ar : HasAt c.hold_in-right.result c.loop-i.i c.min-count.result = record { lanes = f.held.lanes; low = has'.0; high = omega arith } in
    let t : (k : ℕ) × (k < c.min-count.result) × (held_unit c.hold_in-left.result (c.loop-i.i + k) ≡ held_unit c.hold_in-right.result (c.loop-i.i + k) → ⊥) = c.if-not-has_same_units.ensures in
    compared_other u y c.args.b us c.hold_in-left.result c.hold_in-right.result c.loop-i.i c.min-count.result (reads_trans u x y e.reads.view f.reads.view).known here f.held al ar t.0 t.1 t.2

pub loop-i-preserved : goal.loop-i-preserved
loop-i-preserved g c = let v : View = c.args.self.now.agent.seat.me.0 in let u : View = c.loop-i.self.agent.seat.me.0 in
    let x : View = c.hold_in-left.new.self.agent.seat.me.0 in let y : View = c.hold_in-right.new.self.agent.seat.me.0 in
    let s = c.loop-i.invariant in let e = c.hold_in-left.ensures in let f = c.hold_in-right.ensures in let has = e.has in let has' = f.has in let within = e.held.within in
    let m = c.min-count.ensures in let n = c.count_from.ensures in let n' = c.count_from-in-loop-i.ensures in
    let al : HasAt c.hold_in-left.result c.loop-i.i c.min-count.result = record { lanes = e.held.lanes; low = has.0; high = omega arith } in
    let ar : HasAt c.hold_in-right.result c.loop-i.i c.min-count.result = record { lanes = f.held.lanes; low = has'.0; high = omega arith } in
    record {
      most = omega arith;
      heap = f.reads.heap ∙ (e.reads.heap ∙ s.heap);
      reads = reads_trans v u y s.reads (reads_trans u x y e.reads.view f.reads.view);
      forms = forms_trans v u y s.forms (forms_trans u x y e.forms f.forms);
      learned = f.learned;
      same = λ us window. let here : HoldsUnits us c.hold_in-left.result = e.holds us (window_later v u c.args.a us s.reads s.forms window) in
          let t : (k : ℕ) → k < c.min-count.result → held_unit c.hold_in-left.result (c.loop-i.i + k) ≡ held_unit c.hold_in-right.result (c.loop-i.i + k) = c.if-not-has_same_units.ensures in
          compared_on u y c.args.b us c.hold_in-left.result c.hold_in-right.result c.loop-i.i c.min-count.result
          (reads_trans u x y e.reads.view f.reads.view).known here f.held al ar (s.same us window) t;
    }
