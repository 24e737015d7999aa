use Rattle.heap_session.proofs.Shares.{belongs_as}
use Rattle.heap_session.proofs.session.Session.into_agent.Goals as goal

pub returns-clause-belongs : goal.returns-clause-belongs
returns-clause-belongs g c h q = let s = c.args.self in belongs_as s.text.reader.agent (g.H.HeapRef.reached s.text.reader.heap) h s.text.reader.belongs q.0 q.1
