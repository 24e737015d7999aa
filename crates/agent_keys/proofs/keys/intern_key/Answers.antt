use Rattle.std.proofs.Common.{ℕ, ◌+◌, ◌≤◌, List, Option, Some, None, Ok, Err, subst, sym}
use Rattle.heap_rule.specs.declared.view.View.{View}
use Rattle.heap_rule.proofs.MapLemmas.{key_of}
use Rattle.heap_intern.specs.declared.table.faults.TableFull.TheVariants.{Slots}
use Rattle.heap_intern.specs.Answers.{copy_plan}
use Rattle.heap_intern.specs.Keys.{units_of_key}
use Rattle.heap_intern.specs.SlotLoads.{loads_at}
use Rattle.heap_intern.proofs.Opened.{opening_kept}
use Rattle.heap_read.specs.Reads.{HoldsForms}
use Rattle.heap_agents.specs.declared.held.Held.{Held}
use Rattle.heap_agents.specs.Held.{view_by}
use Rattle.heap_agents.specs.Shared.{SharedText, view_if}
use Rattle.agent_keys.proofs.Answered.{found_marked, held_found, missing_units}
use Rattle.agent_keys.proofs.Interned.{entered_found}
use Rattle.heap_agents.proofs.Marks.{possible_in}
use Rattle.agent_keys.proofs.Opened.{found_by_plan, opened_by_plan, opening_found, shut_by_plan, units_interned}
use Rattle.agent_keys.proofs.keys.intern_key.Goals as goal

pub mark_interned-requires-clause-held : goal.mark_interned-requires-clause-held
mark_interned-requires-clause-held c = let call = c.search_key in let e = call.ensures in
    held_found c.args.agent.now call.new.text call.new.seats c.requires.held e.there e.same e.noted (units_of_key c.args.key.now) (Some c.in-Found.seat.id) c.in-Found.ensures.searches.finds.answer

pub mark_interned-requires-clause-known : goal.mark_interned-requires-clause-known
mark_interned-requires-clause-known c = let v : View = view_by c.args.agent.now in let w : View = view_if c.search_key.new.text in let us : List ℕ = units_of_key c.args.key.now in
    key_of w.units c.in-Found.seat.id us (entered_found v w us (Some c.in-Found.seat.id) c.in-Found.ensures.searches.finds.answer).units

pub mark_interned-requires-clause-call : goal.mark_interned-requires-clause-call
mark_interned-requires-clause-call c = let v : View = view_by c.args.agent.now in let w : View = view_if c.search_key.new.text in let us : List ℕ = units_of_key c.args.key.now in
    (us, (entered_found v w us (Some c.in-Found.seat.id) c.in-Found.ensures.searches.finds.answer).call)

pub returns-in-Found : goal.returns-in-Found
returns-in-Found c = let x = c.args.agent.now in let call = c.search_key in let e = call.ensures in let mark = c.mark_interned in let us : List ℕ = units_of_key c.args.key.now in
    let f = c.in-Found.ensures.searches.finds in
    units_interned x mark.new.self us (Ok c.in-Found.seat.id) (found_by_plan x mark.new.self us (copy_plan us) c.in-Found.seat.id
    (found_marked x call.new.text call.new.seats c.requires.held e.there e.same e.noted us mark.new.self mark.ensures.text c.in-Found.seat.id mark.ensures.held mark.ensures.marks mark.ensures.marked f)
    (subst (λ (n : Option SharedText). (k : ℕ) → loads_at (view_if n) k ≤ loads_at (view_by x) k + 2) (sym mark.ensures.text) f.few))
    (subst (λ (n : Option SharedText). HoldsForms (view_by x) (view_if n)) (sym mark.ensures.text) e.forms)

pub renew_for_key-requires-clause-held : goal.renew_for_key-requires-clause-held
renew_for_key-requires-clause-held c = let call = c.search_key in let e = call.ensures in
    held_found c.args.agent.now call.new.text call.new.seats c.requires.held e.there e.same e.noted (units_of_key c.args.key.now) None c.in-Open.ensures.searches.finds.answer

pub take_key-requires-clause-opening : goal.take_key-requires-clause-opening
take_key-requires-clause-opening c = let call = c.search_key in let e = call.ensures in let p = c.renew_for_key.ensures.prepared.spends.continues in
    opening_kept (view_if call.new.text) (view_by c.renew_for_key.new.agent) (units_of_key c.args.key.now) c.in-Open.opening (possible_in call.new.text e.there) p.known p.sizes p.slots
    c.in-Open.ensures.searches.ends.0

pub returns-in-Open : goal.returns-in-Open
returns-in-Open c = let x = c.args.agent.now in let call = c.search_key in let e = call.ensures in let us : List ℕ = units_of_key c.args.key.now in
    let u : Held = record x { text = call.new.text; seats = call.new.seats } in let z = c.renew_for_key.new.agent in
    units_interned x c.take_key.new.agent us c.take_key.result (opened_by_plan x u z c.take_key.new.agent us (copy_plan us) c.in-Open.opening c.take_key.result
    (opening_found x call.new.text call.new.seats c.requires.held e.there e.same e.noted us c.in-Open.opening c.in-Open.ensures.searches)
    c.renew_for_key.ensures.prepared c.take_key.ensures.takes
    (λ d. record { due = d.due; ids = d.ids; words = d.words }) (λ d. record { due = d.due; ids = d.ids; words = d.words })
    c.renew_for_key.ensures.renews c.renew_for_key.ensures.left)
    (λ i f h. c.take_key.ensures.forms i f (c.renew_for_key.ensures.forms i f (e.forms i f h)))

pub returns-in-Shut : goal.returns-in-Shut
returns-in-Shut c = let x = c.args.agent.now in let call = c.search_key in let e = call.ensures in let us : List ℕ = units_of_key c.args.key.now in
    let s = c.in-Shut.ensures.searches in let y : Held = record x { text = call.new.text; seats = call.new.seats } in
    units_interned x y us (Err (Slots c.in-Shut.slots)) (shut_by_plan x y us (copy_plan us) c.in-Shut.slots
    (missing_units x call.new.text call.new.seats c.requires.held e.there e.same e.noted us s.finds) s.ends.0 s.ends.1 s.finds.few) e.forms
