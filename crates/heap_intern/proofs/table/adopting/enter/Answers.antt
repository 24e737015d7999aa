use Rattle.std.proofs.Common.{ℕ, inl, ◌∙◌}
use Rattle.heap_rule.specs.declared.view.View.{View}
use Rattle.heap_rule.specs.Slots.{entry_in}
use Rattle.heap_read.proofs.Freezing.{fixed_frozen}
use Rattle.heap_read.proofs.Loaded.{reads_trans}
use Rattle.heap_read.proofs.Showing.{forms_held}
use Rattle.heap_intern.proofs.Adopting.{adopted_by, fixed_units, here_from, here_once}
use Rattle.heap_intern.proofs.Going.{forms_trans, looks_reads}
use Rattle.heap_intern.proofs.Seeking.{fixed_later}
use Rattle.heap_intern.proofs.table.adopting.enter.Goals as goal

pub fixed_window-window-requires-clause-fixed : goal.fixed_window-window-requires-clause-fixed
fixed_window-window-requires-clause-fixed g c = inl (c.args.slot, c.requires.used.0)

pub read_words-requires-clause-frozen : goal.read_words-requires-clause-frozen
read_words-requires-clause-frozen g c = fixed_frozen c.fixed_window-window.new.self.agent.seat.me.0 c.args.id c.fixed_window-window.result c.fixed_window-window.ensures.fixed

pub load_slot-requires-clause-enter : goal.load_slot-requires-clause-enter
load_slot-requires-clause-enter g c = let u : View = c.fixed_window-window.new.self.agent.seat.me.0 in
    let w : View = c.read_words.new.reader.agent.seat.me.0 in let e = c.fixed_window-window.ensures in let r = c.read_words.ensures in (
      c.args.id,
      r.reads.view.known.slots c.args.slot c.args.id (e.reads.view.known.slots c.args.slot c.args.id c.requires.used.0),
      fixed_units w c.args.id c.fixed_window-window.result (fixed_later u w r.reads.view.known c.args.id c.fixed_window-window.result e.fixed) r.learned r.frozen,
    )

pub returns-clause-adopted : goal.returns-clause-adopted
returns-clause-adopted g c = let v : View = c.args.reader.now.agent.seat.me.0 in
    let u : View = c.fixed_window-window.new.self.agent.seat.me.0 in let w : View = c.read_words.new.reader.agent.seat.me.0 in
    let x : View = c.load_slot.new.self.seat.me.0 in
    let e = c.fixed_window-window.ensures in let r = c.read_words.ensures in let f = c.load_slot.ensures in let i : ℕ = c.args.id in
    let k : ℕ = c.args.slot in let t = c.fixed_window-window.result in let fixed = fixed_later u w r.reads.view.known i t e.fixed in
    adopted_by v w x k i _ c.read_words.new.reader.belongs.5 (looks_reads v w (reads_trans v u w e.reads.view r.reads.view))
    (r.reads.view.known.slots k i (e.reads.view.known.slots k i c.requires.used.0)) t fixed (fixed_units w i t fixed r.learned r.frozen) f.known f.view

pub returns-clause-forms : goal.returns-clause-forms
returns-clause-forms g c = let v : View = c.args.reader.now.agent.seat.me.0 in
    let u : View = c.fixed_window-window.new.self.agent.seat.me.0 in let w : View = c.read_words.new.reader.agent.seat.me.0 in
    let x : View = c.load_slot.new.self.seat.me.0 in
    forms_trans v w x (forms_trans v u w c.fixed_window-window.ensures.held (forms_held u w c.read_words.ensures.forms.0)) (forms_held w x c.load_slot.ensures.forms)

pub returns-clause-loads : goal.returns-clause-loads
returns-clause-loads g c = let v : View = c.args.reader.now.agent.seat.me.0 in let w : View = c.read_words.new.reader.agent.seat.me.0 in let x : View = c.load_slot.new.self.seat.me.0 in
    here_from v w x c.args.slot 1 (c.read_words.ensures.reads.view.slot_loads ∙ c.fixed_window-window.ensures.reads.view.slot_loads)
    (here_once w x c.args.slot _ (entry_in w c.args.slot) c.load_slot.ensures.view)
