use Rattle.js_store.specs.Limits.{limit_units}
use Rattle.heap_session.specs.Sessions.{table_of, session_view}
use Rattle.heap_session.proofs.Whole.{whole_all}
use Rattle.heap_session.proofs.laws.whole_has_all.Goals as goal

pub returns : goal.returns
returns g c whole = let s = c.args._session.now in whole_all (session_view s) (limit_units s.limit) (table_of (g.H.HeapRef.reached s.text.reader.heap)) s.text.reader.belongs.5 whole
