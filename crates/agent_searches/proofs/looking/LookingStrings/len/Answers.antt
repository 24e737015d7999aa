use Rattle.std.proofs.Common.{ap, arith}
use Rattle.std.specs.Arc.{arc_value}
use Rattle.heap_rule.specs.declared.view.View.{View}
use Rattle.heap_rule.proofs.MapLemmas.{has_key}
use Rattle.heap_rule.proofs.Possible.{possible_short}
use Rattle.heap_table.specs.Agents.{view_of}
use Rattle.heap_notes.proofs.NotesStay.{notes_kept}
use Rattle.agent_searches.proofs.Refusing.{looks}
use Rattle.agent_searches.proofs.looking.LookingStrings.len.Goals as goal

pub invariant_of-self : goal.invariant_of-self
invariant_of-self c = let s = c.args.self.now in let t = s.text.now in let e = c.len.ensures in
    record { noted = notes_kept (view_of t.reader.agent) (view_of c.len.new.self.reader.agent) t.reader.belongs.5 e.reads.known e.reads.sizes s.seats.now s.noted }

pub returns-clause-most : goal.returns-clause-most
returns-clause-most c = let t = c.args.self.now.text.now in let v : View = view_of t.reader.agent in let u = has_key v.units c.args.s.id c.requires in
    let n = c.len.ensures.length u.0 u.1 in let m = possible_short v t.reader.belongs.5 c.args.s.id u.0 u.1 in omega arith

pub returns-clause-uses : goal.returns-clause-uses
returns-clause-uses c = let s = c.args.self.now in let e = c.len.ensures in
    looks s.text.now c.len.new.self s.text.ghost_name s.seats.now (ap arc_value e.kept.heap) e.kept.limit e.reads
