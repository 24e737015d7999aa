use Rattle.std.proofs.Common.{subst, ◌∙◌, ◌+◌, arith}
use Rattle.js_header.specs.declared.form.Form.{Form}
use Rattle.js_header.specs.declared.form.Form.TheVariants.{Sliced}
use Rattle.heap_rule.specs.declared.view.View.{View}
use Rattle.heap_rule.specs.Maps.{Has}
use Rattle.heap_read.specs.Sides.{KnowsSide, target_loads}
use Rattle.heap_read.proofs.Leading.{leaf_solid, possible_parent}
use Rattle.heap_read.proofs.Loaded.{reads_trans}
use Rattle.heap_read.proofs.Loaded.{key_kept}
use Rattle.heap_read.proofs.Solids.{one_target}
use Rattle.heap_read.proofs.reader.Reader.window_on.Goals as goal

-- a Sliced
pub form_now-under-requires : goal.form_now-under-requires
form_now-under-requires g c = record { known = subst (KnowsSide c.form_now-form.new.self.agent.seat.me.0) c.in-Sliced.is c.form_now-form.ensures.side }

pub part_window-requires-clause-known : goal.part_window-requires-clause-known
part_window-requires-clause-known g c = key_kept c.form_now-form.new.self.agent.seat.me.0 c.form_now-under.new.self.agent.seat.me.0
    c.args.of.id c.form_now-under.ensures.reads.view.known (key_kept c.args.self.now.agent.seat.me.0 c.form_now-form.new.self.agent.seat.me.0
    c.args.of.id c.form_now-form.ensures.reads.view.known c.requires.known)

pub part_window-requires-clause-sliced : goal.part_window-requires-clause-sliced
part_window-requires-clause-sliced g c = let u : View = c.form_now-form.new.self.agent.seat.me.0 in let i = c.args.of.id in let parent = c.in-Sliced.parent in
    let here : Has u.forms i (Sliced c.in-Sliced.wide parent c.in-Sliced.offset) = subst (λ (f : Form). Has u.forms i f) c.in-Sliced.is c.form_now-form.ensures.seen in
    let less = possible_parent u c.form_now-form.new.self.belongs.5 i c.in-Sliced.wide parent c.in-Sliced.offset here in
    (c.in-Sliced.wide, c.form_now-under.ensures.others i (λ e. absurd (omega (arith, e, less))) ∙ here)

pub part_window-requires-clause-solid : goal.part_window-requires-clause-solid
part_window-requires-clause-solid g c = c.form_now-under.ensures.solid c.args.of.id c.in-Sliced.wide c.in-Sliced.offset
    (subst (λ (f : Form). Has c.form_now-form.new.self.agent.seat.me.0.forms c.args.of.id f) c.in-Sliced.is c.form_now-form.ensures.seen)

pub returns-in-Sliced-clause-reads : goal.returns-in-Sliced-clause-reads
returns-in-Sliced-clause-reads g c = let v : View = c.args.self.now.agent.seat.me.0 in
    let u : View = c.form_now-form.new.self.agent.seat.me.0 in let w : View = c.form_now-under.new.self.agent.seat.me.0 in
    let x : View = c.part_window.new.self.agent.seat.me.0 in
    record { heap = cc; view = reads_trans v w x (reads_trans v u w c.form_now-form.ensures.reads.view c.form_now-under.ensures.reads.view) c.part_window.ensures.reads.view }

pub returns-in-Sliced-clause-shows : goal.returns-in-Sliced-clause-shows
returns-in-Sliced-clause-shows g c us h =
    let i = c.args.of.id in c.part_window.ensures.shows us (c.form_now-under.ensures.reads.view.known.units i us
    (c.form_now-form.ensures.reads.view.known.units i us h))

-- a Flat or a Thin
pub solid_window-requires-clause-known : goal.solid_window-requires-clause-known
solid_window-requires-clause-known g c = key_kept c.args.self.now.agent.seat.me.0 c.form_now-form.new.self.agent.seat.me.0 c.args.of.id c.form_now-form.ensures.reads.view.known c.requires.known

pub solid_window-requires-clause-solid : goal.solid_window-requires-clause-solid
solid_window-requires-clause-solid g c = let e = c.form_now-form.ensures in leaf_solid c.form_now-form.result e.born (e.settled c.requires.settled) c.in_default.not-Sliced

pub returns-clause-reads : goal.returns-clause-reads
returns-clause-reads g c = record {
  heap = cc;
  view = reads_trans c.args.self.now.agent.seat.me.0 c.form_now-form.new.self.agent.seat.me.0
      c.solid_window.new.self.agent.seat.me.0 c.form_now-form.ensures.reads.view c.solid_window.ensures.reads.view;
}

pub returns-clause-shows : goal.returns-clause-shows
returns-clause-shows g c us h = c.solid_window.ensures.shows us (c.form_now-form.ensures.reads.view.known.units c.args.of.id us h)

-- one load for the string, one for the parent of a Sliced, and one for a Thin's target
pub returns-in-Sliced-clause-few : goal.returns-in-Sliced-clause-few
returns-in-Sliced-clause-few g c = let under : Form = c.form_now-under.result in let most = one_target under in record {
  times = 2 + target_loads under;
  few = omega arith;
  loads = λ l j e. let h = c.part_window.ensures.loads l (j + 2) (omega (arith, e, c.form_now-form.ensures.loads, c.form_now-under.ensures.loads)) in omega arith;
}

pub returns-clause-few : goal.returns-clause-few
returns-clause-few g c = let form : Form = c.form_now-form.result in let most = one_target form in record {
  times = 1 + target_loads form;
  few = omega arith;
  loads = λ l j e. let h = c.solid_window.ensures.loads l (j + 1) (omega (arith, e, c.form_now-form.ensures.loads)) in omega arith;
}
