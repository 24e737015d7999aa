use Rattle.std.proofs.Common.{◌∙◌, arith}
use Rattle.heap_rule.specs.declared.view.View.{View}
use Rattle.heap_read.proofs.Comparison.{unit_held_is}
use Rattle.heap_read.proofs.Loaded.{reads_trans}
use Rattle.heap_session.proofs.Lately.{kept_by_one}
use Rattle.heap_session.proofs.words.word_with.Goals as goal

pub hold_in-held-requires-clause-within : goal.hold_in-held-requires-clause-within
hold_in-held-requires-clause-within g c = let r = c.requires.within in let n = (c.window-window.ensures.shows r.0 r.1).1 in let l = r.2 in omega arith

pub returns-clause-reads : goal.returns-clause-reads
returns-clause-reads g c = reads_trans c.args.text.now.reader.agent.seat.me.0 c.window-window.new.self.reader.agent.seat.me.0
    c.hold_in-held.new.self.agent.seat.me.0 c.window-window.ensures.reads c.hold_in-held.ensures.reads.view

pub returns-clause-kept : goal.returns-clause-kept
returns-clause-kept g c = let w : View = c.hold_in-held.new.self.agent.seat.me.0 in let r = c.requires.within in let i = c.args.s.id in
    kept_by_one w (record { id = i; held = c.hold_in-held.result; lanes = c.hold_in-held.ensures.held.lanes }) r.0
    (c.hold_in-held.ensures.reads.view.known.units i r.0 (c.window-window.ensures.reads.known.units i r.0 r.1))
    (c.hold_in-held.ensures.holds r.0 (c.window-window.ensures.shows r.0 r.1).0)

pub returns-clause-unit : goal.returns-clause-unit
returns-clause-unit g c us h =
    let e = c.hold_in-held.ensures in c.unit-unit.ensures ∙ unit_held_is us c.hold_in-held.result c.args.i
    (e.holds us (c.window-window.ensures.shows us h).0) e.has.0 e.has.1
