use Rattle.std.proofs.Common.{◌+◌, subst, ◌∙◌, arith}
use Rattle.js_header.specs.declared.form.Form.{Form}
use Rattle.js_header.specs.declared.form.Form.TheVariants.{Cons, Sliced}
use Rattle.heap_rule.specs.declared.view.View.{View}
use Rattle.heap_rule.specs.Maps.{Has}
use Rattle.heap_read.specs.Sides.{KnowsSide}
use Rattle.heap_read.proofs.Leading.{leaf_solid, possible_parent}
use Rattle.heap_read.proofs.Loaded.{reads_trans, key_kept}
use Rattle.heap_read.proofs.Solids.{one_target}
use Rattle.heap_text.proofs.filling.leaf_window.Goals as goal

-- a Sliced
pub form_now-under-requires : goal.form_now-under-requires
form_now-under-requires g c = record { known = subst (KnowsSide c.args.reader.now.agent.seat.me.0) c.in-Sliced.is c.requires.side }

pub part_window-requires-clause-known : goal.part_window-requires-clause-known
part_window-requires-clause-known g c = key_kept c.args.reader.now.agent.seat.me.0 c.form_now-under.new.self.agent.seat.me.0 c.args.of.id c.form_now-under.ensures.reads.view.known c.requires.known

pub part_window-requires-clause-sliced : goal.part_window-requires-clause-sliced
part_window-requires-clause-sliced g c = let u : View = c.args.reader.now.agent.seat.me.0 in let i = c.args.of.id in let parent = c.in-Sliced.parent in
    let here : Has u.forms i (Sliced c.in-Sliced.wide parent c.in-Sliced.offset) = subst (λ (f : Form). Has u.forms i f) c.in-Sliced.is c.requires.seen in
    let less = possible_parent u c.args.reader.now.belongs.5 i c.in-Sliced.wide parent c.in-Sliced.offset here in
    (c.in-Sliced.wide, c.form_now-under.ensures.others i (λ e. absurd (omega (arith, e, less))) ∙ here)

pub part_window-requires-clause-solid : goal.part_window-requires-clause-solid
part_window-requires-clause-solid g c = c.form_now-under.ensures.solid c.args.of.id c.in-Sliced.wide c.in-Sliced.offset
    (subst (λ (f : Form). Has c.args.reader.now.agent.seat.me.0.forms c.args.of.id f) c.in-Sliced.is c.requires.seen)

pub returns-in-Sliced-clause-reads : goal.returns-in-Sliced-clause-reads
returns-in-Sliced-clause-reads g c = let v : View = c.args.reader.now.agent.seat.me.0 in
    let w : View = c.form_now-under.new.self.agent.seat.me.0 in let x : View = c.part_window.new.self.agent.seat.me.0 in
    record { heap = cc; view = reads_trans v w x c.form_now-under.ensures.reads.view c.part_window.ensures.reads.view }

pub returns-in-Sliced-clause-above : goal.returns-in-Sliced-clause-above
returns-in-Sliced-clause-above g c q b l r less h = let u : View = c.args.reader.now.agent.seat.me.0 in let i = c.args.of.id in let parent = c.in-Sliced.parent in
    let here : Has u.forms i (Sliced c.in-Sliced.wide parent c.in-Sliced.offset) = subst (λ (f : Form). Has u.forms i f) c.in-Sliced.is c.requires.seen in
    let low = possible_parent u c.args.reader.now.belongs.5 i c.in-Sliced.wide parent c.in-Sliced.offset here in
    c.part_window.ensures.held q (Cons b l r) (c.form_now-under.ensures.others q (λ e. absurd (omega (arith, e, low, less))) ∙ h)

pub returns-in-Sliced-clause-shows : goal.returns-in-Sliced-clause-shows
returns-in-Sliced-clause-shows g c us h = c.part_window.ensures.shows us (c.form_now-under.ensures.reads.view.known.units c.args.of.id us h)

pub returns-in-Sliced-clause-loads : goal.returns-in-Sliced-clause-loads
returns-in-Sliced-clause-loads g c l j e =
    let told = c.part_window.ensures.loads l (j + 1) (omega (arith, e, c.form_now-under.ensures.loads)) in omega
    (arith, told, c.tick.ensures, c.count_target.ensures)

pub returns-in-Sliced-clause-steps : goal.returns-in-Sliced-clause-steps
returns-in-Sliced-clause-steps g c = let one = one_target c.form_now-under.result in omega (arith, one, c.tick.ensures, c.count_target.ensures)

-- a Flat or a Thin
pub solid_window-requires-clause-solid : goal.solid_window-requires-clause-solid
solid_window-requires-clause-solid g c = leaf_solid c.args.form c.requires.born c.requires.leaf c.in_default.not-Sliced

pub returns-clause-above : goal.returns-clause-above
returns-clause-above g c q b l r less h = c.solid_window.ensures.held q (Cons b l r) h

pub returns-clause-loads : goal.returns-clause-loads
returns-clause-loads g c l j e = let told = c.solid_window.ensures.loads l j e in omega (arith, told, c.count_target-2.ensures)

pub returns-clause-steps : goal.returns-clause-steps
returns-clause-steps g c = let one = one_target c.args.form in omega (arith, one, c.count_target-2.ensures)
