use Rattle.std.proofs.Common.{ℕ, List}
use Rattle.heap_rule.specs.declared.view.View.{View}
use Rattle.heap_intern.specs.Answers.{copy_plan}
use Rattle.heap_intern.specs.Keys.{units_of_key}
use Rattle.heap_intern.proofs.Hashes.{notes_answer, notes_none}
use Rattle.heap_intern.proofs.Opened.{opening_apart}
use Rattle.heap_intern.proofs.Searches.{has_answered, has_refused}
use Rattle.heap_intern.proofs.table.searching.intern_key_at_by.Goals as goal

pub returns-in-Ok-clause-notes : goal.returns-in-Ok-clause-notes
returns-in-Ok-clause-notes g c = let v : View = c.args.reader.now.agent.seat.me.0 in let w : View = c.place_key.new.reader.agent.seat.me.0 in let us : List ℕ = units_of_key c.args.key.now in
    let o = c.args.opening in let e = c.in-Ok.ensures in let seat = c.in-Ok.seat in let n = c.note_hash.ensures in
    let t = has_answered v w us (copy_plan us) c.args.given seat.id e.interns in
    notes_answer v w c.place_key.new.reader.belongs.5 us c.args.hashes.now c.note_hash.new.hashes o.hash c.requires.opening.hash t.known c.requires.hashed
    (opening_apart v w us c.args.hashes.now o _ c.requires.hashed c.requires.opening e.apart)
    seat.slot seat.id c.max.result c.max.ensures e.stands.0 t.fixed.1 n.room n.only n.there

pub returns-clause-notes : goal.returns-clause-notes
returns-clause-notes g c = let v : View = c.args.reader.now.agent.seat.me.0 in let w : View = c.place_key.new.reader.agent.seat.me.0 in let us : List ℕ = units_of_key c.args.key.now in
    let o = c.args.opening in let e = c.in-Err.ensures in
    let t = has_refused v w us (copy_plan us) c.args.given c.in-Err.full e.interns in
    notes_none v w c.place_key.new.reader.belongs.5 us c.args.hashes.now c.args.hashes.now o.hash c.requires.opening.hash t.0 c.requires.hashed
    (opening_apart v w us c.args.hashes.now o _ c.requires.hashed c.requires.opening e.apart)
