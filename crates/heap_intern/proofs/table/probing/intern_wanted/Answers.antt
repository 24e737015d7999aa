use Rattle.heap_rule.specs.declared.view.View.{View}
use Rattle.heap_intern.proofs.Hashes.{notes_answer, notes_none}
use Rattle.heap_intern.proofs.table.probing.intern_wanted.Goals as goal

pub returns-in-Err-clause-notes : goal.returns-in-Err-clause-notes
returns-in-Err-clause-notes g c us h = let v : View = c.args.reader.now.agent.seat.me.0 in let w : View = c.search_and_place.new.reader.agent.seat.me.0 in
    notes_none v w c.search_and_place.new.reader.belongs.5 us c.args.hashes.now c.args.hashes.now c.args.hash (c.requires.hash us h)
    (c.in-Err.ensures.interns us h).0.known c.requires.hashed c.search_and_place.ensures.apart

pub returns-clause-notes : goal.returns-clause-notes
returns-clause-notes g c us h = let v : View = c.args.reader.now.agent.seat.me.0 in let w : View = c.search_and_place.new.reader.agent.seat.me.0 in
    let answer = c.in-Ok.ensures.interns us h in let seat = c.in-Ok.seat in let n = c.note_hash.ensures in
    notes_answer v w c.search_and_place.new.reader.belongs.5 us c.args.hashes.now c.note_hash.new.hashes c.args.hash (c.requires.hash us h) answer.0.known c.requires.hashed
    c.search_and_place.ensures.apart seat.slot seat.id c.max.result c.max.ensures (c.in-Ok.ensures.stands us h).0 answer.3.1 n.room n.only n.there
