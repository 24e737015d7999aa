use Rattle.std.proofs.Common.{◌≡◌, ◌∙◌, inr, true, false, refl, subst}
use Rattle.js_header.specs.declared.form.Form.{Form}
use Rattle.heap_rule.specs.declared.view.View.{View}
use Rattle.heap_rule.specs.Maps.{Has}
use Rattle.heap_read.proofs.Leading.{leaf_solid}
use Rattle.heap_read.proofs.Loaded.{key_kept, reads_trans}
use Rattle.heap_read.proofs.Showing.{window_kept}
use Rattle.heap_read.proofs.Solids.{side_kept}
use Rattle.heap_read.proofs.reader.Reader.both_windows.Goals as goal

pub solid_window-of_right-requires-clause-known : goal.solid_window-of_right-requires-clause-known
solid_window-of_right-requires-clause-known g c = let v : View = c.args.self.now.agent.seat.me.0 in let u : View = c.form_now-left.new.self.agent.seat.me.0 in
    let x : View = c.form_now-right.new.self.agent.seat.me.0 in let y : View = c.solid_window-of_left.new.self.agent.seat.me.0 in
    key_kept v y c.args.b.id (reads_trans v u y c.form_now-left.ensures.reads.view (reads_trans u x y c.form_now-right.ensures.reads.view c.solid_window-of_left.ensures.reads.view)).known
    c.requires.right_known

pub solid_window-of_right-requires-clause-seen : goal.solid_window-of_right-requires-clause-seen
solid_window-of_right-requires-clause-seen g c = c.solid_window-of_left.ensures.held c.args.b.id c.form_now-right.result c.form_now-right.ensures.seen

pub solid_window-of_right-requires-clause-side : goal.solid_window-of_right-requires-clause-side
solid_window-of_right-requires-clause-side g c = let x : View = c.form_now-right.new.self.agent.seat.me.0 in let y : View = c.solid_window-of_left.new.self.agent.seat.me.0 in
    side_kept x y c.form_now-right.result c.solid_window-of_left.ensures.reads.view.known c.form_now-right.ensures.side

pub returns-clause-reads : goal.returns-clause-reads
returns-clause-reads g c = let v : View = c.args.self.now.agent.seat.me.0 in let u : View = c.form_now-left.new.self.agent.seat.me.0 in
    let x : View = c.form_now-right.new.self.agent.seat.me.0 in let y : View = c.solid_window-of_left.new.self.agent.seat.me.0 in
    let z : View = c.solid_window-of_right.new.self.agent.seat.me.0 in
    record {
      heap = c.solid_window-of_right.ensures.reads.heap ∙ (c.solid_window-of_left.ensures.reads.heap ∙ (c.form_now-right.ensures.reads.heap ∙ c.form_now-left.ensures.reads.heap));
      view = reads_trans v u z c.form_now-left.ensures.reads.view (reads_trans u x z c.form_now-right.ensures.reads.view
          (reads_trans x y z c.solid_window-of_left.ensures.reads.view c.solid_window-of_right.ensures.reads.view));
    }

pub returns-clause-shows : goal.returns-clause-shows
returns-clause-shows g c = let v : View = c.args.self.now.agent.seat.me.0 in let u : View = c.form_now-left.new.self.agent.seat.me.0 in
    let x : View = c.form_now-right.new.self.agent.seat.me.0 in let y : View = c.solid_window-of_left.new.self.agent.seat.me.0 in
    let z : View = c.solid_window-of_right.new.self.agent.seat.me.0 in
    let ux = reads_trans v u x c.form_now-left.ensures.reads.view c.form_now-right.ensures.reads.view in
    let vy = reads_trans v x y ux c.solid_window-of_left.ensures.reads.view in (
      λ us h. let p = c.solid_window-of_left.ensures.shows us (ux.known.units c.args.a.id us h) in
          (window_kept y z c.solid_window-of_right.ensures.held c.solid_window-of_left.result us c.solid_window-of_right.ensures.reads.view.known p.0, p.1),
      λ us h. c.solid_window-of_right.ensures.shows us (vy.known.units c.args.b.id us h),
    )

pub solid_window-of_right-requires-clause-solid : goal.solid_window-of_right-requires-clause-solid
solid_window-of_right-requires-clause-solid g c = let e = c.form_now-right.ensures in
    leaf_solid c.form_now-right.result e.born (e.settled (c.form_now-left.ensures.reads.view.known.settled c.args.b.id c.requires.right_settled))
    (λ wide parent offset is. let f : false ≡ true = c.if-is_sliced-2.ensures.1 (wide, parent, offset, is) in absurd (cc))

pub returns-then-is_sliced-clause-reads : goal.returns-then-is_sliced-clause-reads
returns-then-is_sliced-clause-reads g c = let v : View = c.args.self.now.agent.seat.me.0 in let u : View = c.form_now-left.new.self.agent.seat.me.0 in
    let x : View = c.form_now-right.new.self.agent.seat.me.0 in
    record {
      heap = c.form_now-right.ensures.reads.heap ∙ c.form_now-left.ensures.reads.heap;
      view = reads_trans v u x c.form_now-left.ensures.reads.view c.form_now-right.ensures.reads.view;
    }

pub returns-then-is_sliced-2-clause-reads : goal.returns-then-is_sliced-2-clause-reads
returns-then-is_sliced-2-clause-reads g c = let v : View = c.args.self.now.agent.seat.me.0 in let u : View = c.form_now-left.new.self.agent.seat.me.0 in
    let x : View = c.form_now-right.new.self.agent.seat.me.0 in
    record {
      heap = c.form_now-right.ensures.reads.heap ∙ c.form_now-left.ensures.reads.heap;
      view = reads_trans v u x c.form_now-left.ensures.reads.view c.form_now-right.ensures.reads.view;
    }

pub returns-then-is_sliced-2-clause-cut : goal.returns-then-is_sliced-2-clause-cut
returns-then-is_sliced-2-clause-cut g c none = let x : View = c.form_now-right.new.self.agent.seat.me.0 in let t = c.if-is_sliced-2.ensures.0 refl in
    inr (t.0, t.1, t.2, subst (λ (f : Form). Has x.forms c.args.b.id f) t.3 c.form_now-right.ensures.seen)
