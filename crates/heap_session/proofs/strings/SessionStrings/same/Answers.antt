use Rattle.std.proofs.Common.{rules}
use Rattle.js_store.proofs.Laws.{same_units}
use Rattle.heap_rule.specs.declared.view.View.{View}
use Rattle.js_store.specs.Limits.{limit_units}
use Rattle.heap_session.specs.Sessions.{table_of}
use Rattle.heap_session.specs.Sessions.{state_by}
use Rattle.heap_session.specs.Sound.{session_sound}
use Rattle.heap_session.proofs.strings.SessionStrings.same.Goals as goal

pub returns-clause-units : goal.returns-clause-units
returns-clause-units g c = let s = c.args.self.now in let v : View = s.text.reader.agent.seat.me.0 in
    let h = same_units (state_by v (limit_units s.limit) (table_of (g.H.HeapRef.reached s.text.reader.heap)))
    (session_sound v s.limit (table_of (g.H.HeapRef.reached s.text.reader.heap)) s.text.reader.belongs.5) c.requires.left_interned.0
    c.requires.right_interned.0 c.args.a.id c.args.b.id c.requires.left c.requires.right c.requires.left_interned.1 c.requires.right_interned.1 in
    search rules
