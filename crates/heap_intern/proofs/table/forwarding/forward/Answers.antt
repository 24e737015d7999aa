use Rattle.std.proofs.Common.{inl}
use Rattle.heap_intern.proofs.Moving.{looks_thinned, stays_forwarded}
use Rattle.heap_intern.proofs.Going.{looks_self}
use Rattle.heap_intern.proofs.table.forwarding.forward.Goals as goal

pub thin_step-requires-clause-may : goal.thin_step-requires-clause-may
thin_step-requires-clause-may g c = let e = c.can_thin.ensures in (c.requires.lies.own, rw c.if-can_thin.true at e, c.requires.stands, c.requires.units)

pub returns-then-can_thin-clause-looks : goal.returns-then-can_thin-clause-looks
returns-then-can_thin-clause-looks g c =
    let e = c.thin_step.ensures in (looks_thinned c.args.reader.now.agent.seat.me.0 c.thin_step.new.self.seat.me.0 c.args.s.id c.args.s.form
    c.args.answer _ e.known e.view).0

pub returns-then-can_thin-clause-loads : goal.returns-then-can_thin-clause-loads
returns-then-can_thin-clause-loads g c =
    let e = c.thin_step.ensures in (looks_thinned c.args.reader.now.agent.seat.me.0 c.thin_step.new.self.seat.me.0 c.args.s.id c.args.s.form
    c.args.answer _ e.known e.view).1

pub returns-then-can_thin-clause-forwards : goal.returns-then-can_thin-clause-forwards
returns-then-can_thin-clause-forwards g c = inl c.thin_step.ensures.forwards

pub returns-clause-looks : goal.returns-clause-looks
returns-clause-looks g c = looks_self c.args.reader.now.agent.seat.me.0

pub returns-clause-forwards : goal.returns-clause-forwards
returns-clause-forwards g c = let e = c.can_thin.ensures in let r = c.requires in let k = r.stands in let u = r.units in
    stays_forwarded c.args.reader.now.agent.seat.me.0 c.args.reader.now.belongs.5 c.args.s.id c.args.s.form k.0 c.args.answer u.0 r.lies.own r.lies.settled (rw c.if-can_thin.false at e) k.1 u.1 u.2
