use Rattle.std.proofs.Common.{◌≡◌, subst, ◌∙◌, arith}
use Rattle.js_header.specs.declared.form.Form.{Form}
use Rattle.js_header.specs.declared.form.Form.TheVariants.{Sliced, Thin}
use Rattle.heap_rule.specs.declared.view.View.{View}
use Rattle.heap_rule.specs.Maps.{Has}
use Rattle.heap_read.specs.Sides.{KnowsSide}
use Rattle.heap_read.proofs.Leading.{leaf_solid, possible_parent}
use Rattle.heap_read.proofs.Loaded.{key_kept, reads_trans}
use Rattle.heap_intern.proofs.Going.{looks_reads}
use Rattle.heap_intern.proofs.Seeking.{sought_of}
use Rattle.heap_intern.proofs.table.sought.seek.Goals as goal

-- a Sliced
pub form_now-under-requires : goal.form_now-under-requires
form_now-under-requires g c = record { known = subst (KnowsSide c.form_now-form.new.self.agent.seat.me.0) c.in-Sliced.is c.form_now-form.ensures.side }

pub part_window-window-requires-clause-known : goal.part_window-window-requires-clause-known
part_window-window-requires-clause-known g c = key_kept c.form_now-form.new.self.agent.seat.me.0 c.form_now-under.new.self.agent.seat.me.0
    c.args.id c.form_now-under.ensures.reads.view.known (key_kept c.args.reader.now.agent.seat.me.0 c.form_now-form.new.self.agent.seat.me.0
    c.args.id c.form_now-form.ensures.reads.view.known c.requires.known)

pub part_window-window-requires-clause-sliced : goal.part_window-window-requires-clause-sliced
part_window-window-requires-clause-sliced g c = let u : View = c.form_now-form.new.self.agent.seat.me.0 in let i = c.args.id in let parent = c.in-Sliced.parent in
    let here : Has u.forms i (Sliced c.in-Sliced.wide parent c.in-Sliced.offset) = subst (λ (f : Form). Has u.forms i f) c.in-Sliced.is c.form_now-form.ensures.seen in
    let less = possible_parent u c.form_now-form.new.self.belongs.5 i c.in-Sliced.wide parent c.in-Sliced.offset here in
    (c.in-Sliced.wide, c.form_now-under.ensures.others i (λ e. absurd (omega (arith, e, less))) ∙ here)

pub part_window-window-requires-clause-solid : goal.part_window-window-requires-clause-solid
part_window-window-requires-clause-solid g c = c.form_now-under.ensures.solid c.args.id c.in-Sliced.wide c.in-Sliced.offset
    (subst (λ (f : Form). Has c.form_now-form.new.self.agent.seat.me.0.forms c.args.id f) c.in-Sliced.is c.form_now-form.ensures.seen)

pub returns-in-Sliced-clause-looks : goal.returns-in-Sliced-clause-looks
returns-in-Sliced-clause-looks g c = let v : View = c.args.reader.now.agent.seat.me.0 in
    let u : View = c.form_now-form.new.self.agent.seat.me.0 in let w : View = c.form_now-under.new.self.agent.seat.me.0 in
    let x : View = c.part_window-window.new.self.agent.seat.me.0 in
    looks_reads v x (reads_trans v w x (reads_trans v u w c.form_now-form.ensures.reads.view c.form_now-under.ensures.reads.view) c.part_window-window.ensures.reads.view)

pub returns-in-Sliced-clause-loads : goal.returns-in-Sliced-clause-loads
returns-in-Sliced-clause-loads g c = c.part_window-window.ensures.reads.view.slot_loads ∙ (c.form_now-under.ensures.reads.view.slot_loads ∙ c.form_now-form.ensures.reads.view.slot_loads)

pub returns-in-Sliced-clause-lies : goal.returns-in-Sliced-clause-lies
returns-in-Sliced-clause-lies g c = let x : View = c.part_window-window.new.self.agent.seat.me.0 in let i = c.args.id in let f = Sliced c.in-Sliced.wide c.in-Sliced.parent c.in-Sliced.offset in
    let e = c.form_now-form.ensures in
    let less = possible_parent c.form_now-form.new.self.agent.seat.me.0 c.form_now-form.new.self.belongs.5 i c.in-Sliced.wide
    c.in-Sliced.parent c.in-Sliced.offset (subst (λ (g : Form). Has c.form_now-form.new.self.agent.seat.me.0.forms i g) c.in-Sliced.is e.seen) in
    sought_of x (record { id = i; form = f; window = c.part_window-window.result })
    (c.part_window-window.ensures.held i f (c.form_now-under.ensures.others i (λ d. absurd (omega (arith, d, less))) ∙ subst
    (λ (g : Form). Has c.form_now-form.new.self.agent.seat.me.0.forms i g) c.in-Sliced.is e.seen))
    (λ none. none) c.part_window-window.ensures.over

pub returns-in-Sliced-clause-target : goal.returns-in-Sliced-clause-target
returns-in-Sliced-clause-target g c t is = let bad : Sliced c.in-Sliced.wide c.in-Sliced.parent c.in-Sliced.offset ≡ Thin t = is in absurd (cc)

-- a Flat or a Thin
pub returns-clause-target : goal.returns-clause-target
returns-clause-target g c t is = key_kept c.form_now-form.new.self.agent.seat.me.0 c.solid_window-window.new.self.agent.seat.me.0 t
    c.solid_window-window.ensures.reads.view.known (c.form_now-form.ensures.target t is c.requires.known)

pub solid_window-window-requires-clause-known : goal.solid_window-window-requires-clause-known
solid_window-window-requires-clause-known g c = key_kept c.args.reader.now.agent.seat.me.0 c.form_now-form.new.self.agent.seat.me.0 c.args.id c.form_now-form.ensures.reads.view.known c.requires.known

pub solid_window-window-requires-clause-solid : goal.solid_window-window-requires-clause-solid
solid_window-window-requires-clause-solid g c = let e = c.form_now-form.ensures in leaf_solid c.form_now-form.result e.born (e.settled c.requires.settled) c.in_default.not-Sliced

pub returns-clause-looks : goal.returns-clause-looks
returns-clause-looks g c = let v : View = c.args.reader.now.agent.seat.me.0 in let u : View = c.form_now-form.new.self.agent.seat.me.0 in
    let x : View = c.solid_window-window.new.self.agent.seat.me.0 in
    looks_reads v x (reads_trans v u x c.form_now-form.ensures.reads.view c.solid_window-window.ensures.reads.view)

pub returns-clause-loads : goal.returns-clause-loads
returns-clause-loads g c = c.solid_window-window.ensures.reads.view.slot_loads ∙ c.form_now-form.ensures.reads.view.slot_loads

pub returns-clause-lies : goal.returns-clause-lies
returns-clause-lies g c = let e = c.form_now-form.ensures in
    sought_of c.solid_window-window.new.self.agent.seat.me.0 (record { id = c.args.id; form = c.form_now-form.result; window = c.solid_window-window.result })
    (c.solid_window-window.ensures.held c.args.id c.form_now-form.result e.seen) (e.settled c.requires.settled) c.solid_window-window.ensures.over
