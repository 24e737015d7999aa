use Rattle.std.proofs.Common.{◌∙◌, ap}
use Rattle.std.specs.Arc.{arc_value}
use Rattle.heap_rule.specs.declared.view.View.{View}
use Rattle.heap_table.specs.Agents.{view_of}
use Rattle.heap_read.proofs.Loaded.{reads_trans}
use Rattle.heap_notes.proofs.NotesStay.{notes_kept}
use Rattle.agent_searches.proofs.Refusing.{looks}
use Rattle.agent_searches.proofs.looking.LookingStrings.find_unit.Goals as goal

pub invariant_of-self : goal.invariant_of-self
invariant_of-self c = let s = c.args.self.now in let t = s.text.now in let v : View = view_of t.reader.agent in let w : View = view_of c.find_in.new.self.reader.agent in
    let reads = reads_trans v (view_of c.window-window.new.self.reader.agent) w c.window-window.ensures.reads c.find_in.ensures.reads in
    record { noted = notes_kept v w t.reader.belongs.5 reads.known reads.sizes s.seats.now s.noted }

pub returns-clause-uses : goal.returns-clause-uses
returns-clause-uses c = let s = c.args.self.now in let a = c.window-window in let b = c.find_in in
    looks s.text.now b.new.self s.text.ghost_name s.seats.now (ap arc_value (b.ensures.kept.heap ∙ a.ensures.kept.heap)) (b.ensures.kept.limit ∙ a.ensures.kept.limit)
    (reads_trans (view_of s.text.now.reader.agent) (view_of a.new.self.reader.agent) (view_of b.new.self.reader.agent) a.ensures.reads b.ensures.reads)
