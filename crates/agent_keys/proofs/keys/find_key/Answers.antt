use Rattle.std.proofs.Common.{ℕ, List, Some}
use Rattle.heap_rule.specs.declared.view.View.{View}
use Rattle.heap_rule.proofs.MapLemmas.{key_of}
use Rattle.heap_intern.specs.Keys.{units_of_key}
use Rattle.heap_agents.specs.Held.{view_by}
use Rattle.heap_agents.specs.Shared.{view_if}
use Rattle.agent_keys.proofs.Answered.{found_marked, held_found, missing_units}
use Rattle.agent_keys.proofs.Interned.{entered_found}
use Rattle.agent_keys.proofs.keys.find_key.Goals as goal

pub mark_interned-requires-clause-held : goal.mark_interned-requires-clause-held
mark_interned-requires-clause-held c = let call = c.search_key in let e = call.ensures in
    held_found c.args.agent.now call.new.text call.new.seats c.requires.held e.there e.same e.noted (units_of_key c.args.key.now) (Some c.in-Found.seat.id) c.in-Found.ensures.searches.finds.answer

pub mark_interned-requires-clause-known : goal.mark_interned-requires-clause-known
mark_interned-requires-clause-known c = let v : View = view_by c.args.agent.now in let w : View = view_if c.search_key.new.text in let us : List ℕ = (units_of_key c.args.key.now) in
    key_of w.units c.in-Found.seat.id us (entered_found v w us (Some c.in-Found.seat.id) c.in-Found.ensures.searches.finds.answer).units

pub mark_interned-requires-clause-call : goal.mark_interned-requires-clause-call
mark_interned-requires-clause-call c = let v : View = view_by c.args.agent.now in let w : View = view_if c.search_key.new.text in let us : List ℕ = (units_of_key c.args.key.now) in
    (us, (entered_found v w us (Some c.in-Found.seat.id) c.in-Found.ensures.searches.finds.answer).call)

pub returns-in-Found : goal.returns-in-Found
returns-in-Found c = let call = c.search_key in let e = call.ensures in let mark = c.mark_interned in
    found_marked c.args.agent.now call.new.text call.new.seats c.requires.held e.there e.same e.noted (units_of_key c.args.key.now)
    mark.new.self mark.ensures.text c.in-Found.seat.id mark.ensures.held mark.ensures.marks mark.ensures.marked c.in-Found.ensures.searches.finds

pub returns-in-Open : goal.returns-in-Open
returns-in-Open c = let call = c.search_key in let e = call.ensures in
    missing_units c.args.agent.now call.new.text call.new.seats c.requires.held e.there e.same e.noted (units_of_key c.args.key.now) c.in-Open.ensures.searches.finds

pub returns-in-Shut : goal.returns-in-Shut
returns-in-Shut c = let call = c.search_key in let e = call.ensures in
    missing_units c.args.agent.now call.new.text call.new.seats c.requires.held e.there e.same e.noted (units_of_key c.args.key.now) c.in-Shut.ensures.searches.finds
