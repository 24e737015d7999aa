use Rattle.std.proofs.Common.{ℕ, ap, arith}
use Rattle.std.specs.Prelude.{unwrap_or}
use Rattle.std.specs.FinMap.{FinMap, get}
use Rattle.std.specs.Ordering.{nat_cmp}
use Rattle.heap_rule.specs.declared.view.View.{View}
use Rattle.heap_rule.proofs.Possible.{possible_inside, possible_lawful}
use Rattle.heap_intern.specs.Headers.{header_plan}
use Rattle.heap_intern.proofs.Hashes.{notes_answer, notes_none, notes_then}
use Rattle.heap_intern.proofs.Opened.{opening_apart}
use Rattle.heap_intern.proofs.Searches.{answers_then, has_answered, has_refused}
use Rattle.heap_intern.proofs.Seats.{seats_kept, seats_with}
use Rattle.heap_intern.proofs.Seeking.{sought_kept}
use Rattle.heap_intern.proofs.Visiting.{behind_kept, fixed_kept}
use Rattle.heap_intern.proofs.table.placing.intern_string_at_by.Goals as goal

pub returns-in-Err-clause-seated : goal.returns-in-Err-clause-seated
returns-in-Err-clause-seated g c = let v : View = c.args.reader.now.agent.seat.me.0 in let w : View = c.place_with.new.reader.agent.seat.me.0 in let o = c.requires.opening in
    let t = has_refused v w o.0 (header_plan c.args.opening.sought o.0) c.args.given c.in-Err.full (c.in-Err.ensures.interns o.0 o.1) in
    seats_kept v w c.args.reader.now.belongs.5 t.0 t.1 c.args.seats.now c.requires.seated

pub returns-in-Err-clause-notes : goal.returns-in-Err-clause-notes
returns-in-Err-clause-notes g c us h = let v : View = c.args.reader.now.agent.seat.me.0 in let w : View = c.place_with.new.reader.agent.seat.me.0 in let o = c.args.opening.opening in
    let t = has_refused v w us (header_plan c.args.opening.sought us) c.args.given c.in-Err.full (c.in-Err.ensures.interns us h) in
    notes_none v w c.place_with.new.reader.belongs.5 us c.args.hashes.now c.args.hashes.now o.hash h.opening.hash t.0 c.requires.hashed
    (opening_apart v w us c.args.hashes.now o _ c.requires.hashed h.opening c.in-Err.ensures.apart)

pub note_seat-requires : goal.note_seat-requires
note_seat-requires g c = let w : View = c.place_with.new.reader.agent.seat.me.0 in let p = c.place_with.new.reader.belongs.5 in let o = c.requires.opening in
    let there = c.in-Ok.ensures.stands o.0 o.1 in let inside = possible_inside w p c.in-Ok.seat.slot c.in-Ok.seat.id there.0 in let lawful = possible_lawful w p in let a = lawful.5 in omega (arith, inside, a)

pub forward-requires-clause-lies : goal.forward-requires-clause-lies
forward-requires-clause-lies g c = let v : View = c.args.reader.now.agent.seat.me.0 in let w : View = c.place_with.new.reader.agent.seat.me.0 in let o = c.requires.opening in
    let t = has_answered v w o.0 (header_plan c.args.opening.sought o.0) c.args.given c.in-Ok.seat.id (c.in-Ok.ensures.interns o.0 o.1) in
    sought_kept v w t.known c.place_with.ensures.forms c.args.opening.sought o.1.sought

pub forward-requires-clause-stands : goal.forward-requires-clause-stands
forward-requires-clause-stands g c = let o = c.requires.opening in (c.in-Ok.seat.slot, (c.in-Ok.ensures.stands o.0 o.1).0)

pub forward-requires-clause-units : goal.forward-requires-clause-units
forward-requires-clause-units g c = let v : View = c.args.reader.now.agent.seat.me.0 in let w : View = c.place_with.new.reader.agent.seat.me.0 in let o = c.requires.opening in
    let t = has_answered v w o.0 (header_plan c.args.opening.sought o.0) c.args.given c.in-Ok.seat.id (c.in-Ok.ensures.interns o.0 o.1) in
    (o.0, t.known.units c.args.opening.sought.id o.0 o.1.units, t.fixed.1)

pub returns-clause-interns : goal.returns-clause-interns
returns-clause-interns g c us h = let v : View = c.args.reader.now.agent.seat.me.0 in let w : View = c.place_with.new.reader.agent.seat.me.0 in let x : View = c.forward.new.reader.agent.seat.me.0 in
    answers_then v w x us (header_plan c.args.opening.sought us) c.args.given c.in-Ok.seat.id c.place_with.new.reader.belongs.5 (c.in-Ok.ensures.interns us h) c.forward.ensures.looks

pub returns-in-Err-clause-loads : goal.returns-in-Err-clause-loads
returns-in-Err-clause-loads g c us h = record { once = c.in-Err.ensures.once us h; most = c.in-Err.ensures.most }

pub returns-clause-loads : goal.returns-clause-loads
returns-clause-loads g c us h = let v : View = c.args.reader.now.agent.seat.me.0 in let w : View = c.place_with.new.reader.agent.seat.me.0 in let x : View = c.forward.new.reader.agent.seat.me.0 in record {
  once = λ k l. let e = ap (λ (m : FinMap nat_cmp ℕ). unwrap_or (get m k) 0) c.forward.ensures.loads in let a = c.in-Ok.ensures.once us h k l in omega (arith, e, a);
  most = λ k. let e = ap (λ (m : FinMap nat_cmp ℕ). unwrap_or (get m k) 0) c.forward.ensures.loads in let a = c.in-Ok.ensures.most k in omega (arith, e, a);
}

pub returns-clause-seated : goal.returns-clause-seated
returns-clause-seated g c = let v : View = c.args.reader.now.agent.seat.me.0 in let w : View = c.place_with.new.reader.agent.seat.me.0 in let x : View = c.forward.new.reader.agent.seat.me.0 in let o = c.requires.opening in
    let t = has_answered v w o.0 (header_plan c.args.opening.sought o.0) c.args.given c.in-Ok.seat.id (c.in-Ok.ensures.interns o.0 o.1) in
    let there = c.in-Ok.ensures.stands o.0 o.1 in let m = c.forward.ensures.looks in let k = m.goes.known in let p = c.place_with.new.reader.belongs.5 in let s = c.args.opening.sought in
    seats_with x c.args.seats.now c.note_seat.new.seats s.id c.in-Ok.seat.slot c.note_seat.ensures.only
    (seats_kept w x p k m.goes.sizes c.args.seats.now (seats_kept v w c.args.reader.now.belongs.5 t.known t.sizes c.args.seats.now c.requires.seated)) (record {
      target = c.in-Ok.seat.id;
      units = o.0;
      here = k.units s.id o.0 (t.known.units s.id o.0 o.1.units);
      fixed = fixed_kept w x p k o.0 c.in-Ok.seat.id t.fixed;
      stands = k.slots c.in-Ok.seat.slot c.in-Ok.seat.id there.0;
      behind = behind_kept w x p k o.0 m.goes.sizes c.in-Ok.seat.slot there.1;
      forwards = c.forward.ensures.forwards;
    })

pub returns-clause-notes : goal.returns-clause-notes
returns-clause-notes g c us h = let v : View = c.args.reader.now.agent.seat.me.0 in let w : View = c.place_with.new.reader.agent.seat.me.0 in let x : View = c.forward.new.reader.agent.seat.me.0 in
    let t = has_answered v w us (header_plan c.args.opening.sought us) c.args.given c.in-Ok.seat.id (c.in-Ok.ensures.interns us h) in let o = c.args.opening.opening in
    let there = c.in-Ok.ensures.stands us h in let n = c.note_hash.ensures in let seat = c.in-Ok.seat in let later = c.note_hash.new.hashes in
    notes_then v w x c.forward.new.reader.belongs.5 us seat.id seat.slot c.args.hashes.now later there.0 c.forward.ensures.looks.goes.known c.forward.ensures.loads
    (notes_answer v w c.place_with.new.reader.belongs.5 us c.args.hashes.now later o.hash h.opening.hash t.known c.requires.hashed
    (opening_apart v w us c.args.hashes.now o _ c.requires.hashed h.opening c.in-Ok.ensures.apart)
    seat.slot seat.id c.max.result c.max.ensures there.0 t.fixed.1 n.room n.only n.there)
