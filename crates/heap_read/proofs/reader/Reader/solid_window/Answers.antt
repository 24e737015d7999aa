use Rattle.std.proofs.Common.{inl, inr, true, refl, subst, arith}
use Rattle.js_header.specs.declared.form.Form.{Form}
use Rattle.js_header.specs.declared.form.Form.TheVariants.{Thin}
use Rattle.heap_rule.specs.Maps.{Has}
use Rattle.heap_read.specs.Sides.{KnowsSide}
use Rattle.heap_read.proofs.Loaded.{reads_trans}
use Rattle.heap_read.proofs.Showing.{forms_held}
use Rattle.heap_read.proofs.Solids.{no_other}
use Rattle.heap_read.proofs.Loaded.{key_kept}
use Rattle.heap_read.proofs.reader.Reader.solid_window.Goals as goal

-- a Flat
pub window_over-requires-clause-led : goal.window_over-requires-clause-led
window_over-requires-clause-led g c = record {
  id = c.args.of.id;
  fixed = c.in-Flat.fixed;
  form = subst (λ (f : Form). Has c.args.self.now.agent.seat.me.0.forms c.args.of.id f) c.in-Flat.is c.requires.seen;
  way = inl (inl refl, refl, refl);
}

pub window_over-requires-clause-met : goal.window_over-requires-clause-met
window_over-requires-clause-met g c = inl c.requires.known

pub returns-in-Flat-clause-held : goal.returns-in-Flat-clause-held
returns-in-Flat-clause-held g c = forms_held c.args.self.now.agent.seat.me.0 c.window_over.new.self.agent.seat.me.0 c.window_over.ensures.forms.0

-- a Thin
pub target_run-run-requires-clause-thin : goal.target_run-run-requires-clause-thin
target_run-run-requires-clause-thin g c = subst (λ (f : Form). Has c.args.self.now.agent.seat.me.0.forms c.args.of.id f) c.in-Thin.is c.requires.seen

pub target_run-run-requires-clause-met : goal.target_run-run-requires-clause-met
target_run-run-requires-clause-met g c = subst (KnowsSide c.args.self.now.agent.seat.me.0) c.in-Thin.is c.requires.side

pub window_over-requires-in-Thin-clause-known : goal.window_over-requires-in-Thin-clause-known
window_over-requires-in-Thin-clause-known g c = key_kept c.args.self.now.agent.seat.me.0 c.target_run-run.new.self.agent.seat.me.0
    c.args.of.id c.target_run-run.ensures.reads.view.known c.requires.known

pub window_over-requires-in-Thin-clause-met : goal.window_over-requires-in-Thin-clause-met
window_over-requires-in-Thin-clause-met g c = c.target_run-run.ensures.reads.view.known.known c.in-Thin.target (subst (KnowsSide c.args.self.now.agent.seat.me.0) c.in-Thin.is c.requires.side)

pub window_over-requires-in-Thin-clause-led : goal.window_over-requires-in-Thin-clause-led
window_over-requires-in-Thin-clause-led g c = let e = c.target_run-run.ensures in record {
  id = c.in-Thin.target;
  fixed = true;
  form = e.flat;
  way = inl (inr (e.held c.args.of.id (Thin c.in-Thin.target) (subst (λ (f : Form). Has c.args.self.now.agent.seat.me.0.forms c.args.of.id f) c.in-Thin.is c.requires.seen)), refl, refl);
}

pub unreachable-requires : goal.unreachable-requires
unreachable-requires g c = no_other c.args.form c.requires.solid c.in_default.not-Flat c.in_default.not-Thin

pub returns-in-Thin-clause-reads : goal.returns-in-Thin-clause-reads
returns-in-Thin-clause-reads g c = record {
  heap = cc;
  view = reads_trans c.args.self.now.agent.seat.me.0
      c.target_run-run.new.self.agent.seat.me.0 c.window_over-in-Thin.new.self.agent.seat.me.0 c.target_run-run.ensures.reads.view
      c.window_over-in-Thin.ensures.reads.view;
}

pub returns-in-Thin-clause-held : goal.returns-in-Thin-clause-held
returns-in-Thin-clause-held g c i f h = forms_held c.target_run-run.new.self.agent.seat.me.0 c.window_over-in-Thin.new.self.agent.seat.me.0
    c.window_over-in-Thin.ensures.forms.0 i f (c.target_run-run.ensures.held i f h)

pub returns-in-Thin-clause-shows : goal.returns-in-Thin-clause-shows
returns-in-Thin-clause-shows g c us h = c.window_over-in-Thin.ensures.shows us (c.target_run-run.ensures.reads.view.known.units c.args.of.id us h)

pub returns-in-Flat-clause-loads : goal.returns-in-Flat-clause-loads
returns-in-Flat-clause-loads g c l j e = rw c.in-Flat.is (rw c.window_over.ensures.forms.1 (omega (arith, e)))

pub returns-in-Thin-clause-loads : goal.returns-in-Thin-clause-loads
returns-in-Thin-clause-loads g c l j e = rw c.in-Thin.is (rw c.window_over-in-Thin.ensures.forms.1 (omega (arith, e, c.target_run-run.ensures.loads)))
