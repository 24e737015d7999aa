use Rattle.std.proofs.Common.{inl, inr, refl, ◌∙◌}
use Rattle.js_header.specs.declared.form.Form.TheVariants.{Sliced}
use Rattle.heap_read.proofs.Loaded.{reads_trans}
use Rattle.heap_read.proofs.Showing.{forms_held}
use Rattle.heap_read.proofs.Loaded.{key_kept}
use Rattle.heap_read.proofs.reader.Reader.part_window.Goals as goal

pub window_over-requires-clause-known : goal.window_over-requires-clause-known
window_over-requires-clause-known g c = key_kept c.args.self.now.agent.seat.me.0 c.solid_run-run.new.self.agent.seat.me.0 c.args.of.id c.solid_run-run.ensures.reads.view.known c.requires.known

pub window_over-requires-clause-met : goal.window_over-requires-clause-met
window_over-requires-clause-met g c = inl (window_over-requires-clause-known g c)

pub window_over-requires-clause-led : goal.window_over-requires-clause-led
window_over-requires-clause-led g c = let e = c.solid_run-run.ensures in record {
  id = e.flat.0;
  fixed = e.flat.1;
  form = e.flat.3;
  way = inr (c.requires.sliced.0, c.args.parent, e.held c.args.of.id (Sliced c.requires.sliced.0 c.args.parent c.args.offset) c.requires.sliced.1, e.flat.2, refl);
}

pub returns-clause-reads : goal.returns-clause-reads
returns-clause-reads g c = record {
  heap = cc;
  view = reads_trans c.args.self.now.agent.seat.me.0 c.solid_run-run.new.self.agent.seat.me.0
      c.window_over.new.self.agent.seat.me.0 c.solid_run-run.ensures.reads.view c.window_over.ensures.reads.view;
}

pub returns-clause-held : goal.returns-clause-held
returns-clause-held g c i f h = forms_held c.solid_run-run.new.self.agent.seat.me.0 c.window_over.new.self.agent.seat.me.0 c.window_over.ensures.forms.0 i f (c.solid_run-run.ensures.held i f h)

pub returns-clause-shows : goal.returns-clause-shows
returns-clause-shows g c us h = c.window_over.ensures.shows us (c.solid_run-run.ensures.reads.view.known.units c.args.of.id us h)

pub returns-clause-loads : goal.returns-clause-loads
returns-clause-loads g c l j e = c.window_over.ensures.forms.1 ∙ c.solid_run-run.ensures.loads l j e
