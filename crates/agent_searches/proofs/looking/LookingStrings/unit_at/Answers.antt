use Rattle.std.proofs.Common.{ap}
use Rattle.std.specs.Arc.{arc_value}
use Rattle.heap_table.specs.Agents.{view_of}
use Rattle.heap_notes.proofs.NotesStay.{notes_kept}
use Rattle.agent_searches.proofs.Refusing.{looks}
use Rattle.agent_searches.proofs.looking.LookingStrings.unit_at.Goals as goal

pub invariant_of-self : goal.invariant_of-self
invariant_of-self c = let s = c.args.self.now in let t = s.text.now in let e = c.unit_at.ensures in
    record { noted = notes_kept (view_of t.reader.agent) (view_of c.unit_at.new.self.reader.agent) t.reader.belongs.5 e.reads.known e.reads.sizes s.seats.now s.noted }

pub returns-clause-uses : goal.returns-clause-uses
returns-clause-uses c = let s = c.args.self.now in let e = c.unit_at.ensures in
    looks s.text.now c.unit_at.new.self s.text.ghost_name s.seats.now (ap arc_value e.kept.heap) e.kept.limit e.reads
