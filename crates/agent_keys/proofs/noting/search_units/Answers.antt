use Rattle.std.proofs.Common.{ℕ, List, Ok, subst, sym}
use Rattle.heap_rule.specs.declared.view.View.{View}
use Rattle.heap_table.specs.Agents.{view_of}
use Rattle.heap_intern.specs.Given.{InternsGiven}
use Rattle.heap_intern.specs.Hashes.{AreHashes}
use Rattle.heap_intern.specs.Seats.{AreSeats, IsSeatOf}
use Rattle.heap_intern.proofs.KeptKeys.{kept_searched}
use Rattle.heap_notes.proofs.NotesStay.{notes_kept, notes_reached}
use Rattle.agent_keys.proofs.noting.search_units.Goals as goal

pub search_by_hash-requires-clause-noted : goal.search_by_hash-requires-clause-noted
search_by_hash-requires-clause-noted c = let e = c.find_list.ensures in
    notes_reached (view_of c.args.text.now.reader.agent) c.args.seats.now c.find_list.new.self e.slots e.hashes e.keys c.requires.noted

pub intern_again-requires : goal.intern_again-requires
intern_again-requires c = let v : View = view_of c.args.text.now.reader.agent in
    (c.args.units.now, c.in-Some.ensures.found v c.requires.noted.2)

pub returns-in-Some-clause-searches : goal.returns-in-Some-clause-searches
returns-in-Some-clause-searches c = let t = c.args.text.now in let v : View = view_of t.reader.agent in let w : View = view_of c.intern_again.new.reader.agent in let us = c.args.units.now in
    let seat : IsSeatOf v us c.in-Some.seat = c.in-Some.ensures.found v c.requires.noted.2 in
    kept_searched v w us c.in-Some.seat t.reader.belongs.5 c.intern_again.new.reader.belongs.5 seat
    (subst (λ (i : ℕ). InternsGiven v w us (Ok i)) c.intern_again.ensures.same (c.intern_again.ensures.interns us seat.1))

pub returns-in-Some-clause-forms : goal.returns-in-Some-clause-forms
returns-in-Some-clause-forms c = let v : View = view_of c.args.text.now.reader.agent in
    let seat : IsSeatOf v c.args.units.now c.in-Some.seat = c.in-Some.ensures.found v c.requires.noted.2 in
    (c.intern_again.ensures.interns c.args.units.now seat.1).forms

pub returns-in-Some-clause-noted : goal.returns-in-Some-clause-noted
returns-in-Some-clause-noted c = let t = c.args.text.now in let v : View = view_of t.reader.agent in let w : View = view_of c.intern_again.new.reader.agent in
    let goes = (returns-in-Some-clause-searches c).finds.answer.0 in let e = c.find_list.ensures in
    notes_kept v w t.reader.belongs.5 goes.known goes.sizes c.find_list.new.self (notes_reached v c.args.seats.now c.find_list.new.self e.slots e.hashes e.keys c.requires.noted)

pub returns-in-Found-clause-noted : goal.returns-in-Found-clause-noted
returns-in-Found-clause-noted c = let w : View = view_of c.search_by_hash.new.text.reader.agent in let right = c.in-Found.ensures.noted in let e = c.keep_list.ensures in (
  subst (λ (l : List ℕ). AreSeats w l) (λ i. (sym e.slots i).items) right.0,
  subst (λ (l : List ℕ). AreHashes w l) (λ i. (sym e.hashes i).items) right.1,
  e.right w right.2 c.in-Found.ensures.seated,
)
