use Rattle.std.proofs.Common.{None, ap, sym, subst}
use Rattle.heap_rule.specs.declared.view.View.{View}
use Rattle.js_store.specs.declared.limit.Limit.{Limit}
use Rattle.js_store.specs.Faults.{Uses}
use Rattle.js_store.specs.Limits.{limit_units}
use Rattle.heap_session.specs.Sessions.{state_by, table_of}
use Rattle.heap_session.proofs.States.{history_reads, step_reads, uses_at}
use Rattle.heap_session.proofs.strings.SessionStrings.unit_at.Goals as goal

pub returns-clause-uses : goal.returns-clause-uses
returns-clause-uses g c = let s = c.args.self.now in let v : View = s.text.reader.agent.seat.me.0 in
    let w : View = c.unit_by_loads.new.self.text.reader.agent.seat.me.0 in let e = c.unit_by_loads.ensures in
    subst (λ (l : Limit). Uses (state_by v (limit_units s.limit) (table_of (g.H.HeapRef.reached s.text.reader.heap)))
    (state_by w (limit_units l) (table_of (g.H.HeapRef.reached c.unit_by_loads.new.self.text.reader.heap))) None 0 0) (sym e.limit)
    (uses_at v w (limit_units s.limit) (table_of (g.H.HeapRef.reached s.text.reader.heap))
    (table_of (g.H.HeapRef.reached c.unit_by_loads.new.self.text.reader.heap)) None 0 0 (ap (λ x. table_of (g.H.HeapRef.reached x)) e.heap)
    (history_reads v w e.reads) tt (step_reads v w (limit_units s.limit) (table_of (g.H.HeapRef.reached s.text.reader.heap)) s.text.reader.belongs.5 e.reads))
