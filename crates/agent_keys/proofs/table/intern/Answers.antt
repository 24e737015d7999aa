use Rattle.std.proofs.Common.{◌≡◌, ◌≤◌, ◌+◌, ◌∙◌, ℕ, List, Option, Some, None, Ok, Err, refl, subst, sym}
use Rattle.std.specs.Prelude.{IfOk}
use Rattle.heap_rule.specs.declared.view.View.{View}
use Rattle.heap_rule.proofs.MapLemmas.{has_key, key_of}
use Rattle.heap_intern.specs.declared.table.faults.TableFull.TheVariants.{Slots}
use Rattle.heap_intern.specs.Answers.{HeaderPlan, IsForwarded, IsPlan}
use Rattle.heap_intern.specs.Headers.{header_plan}
use Rattle.heap_intern.specs.Searching.{IsStringOpening}
use Rattle.heap_intern.specs.SlotLoads.{loads_at}
use Rattle.heap_intern.proofs.Searches.{string_opening_kept}
use Rattle.heap_agents.specs.declared.held.Held.{Held}
use Rattle.heap_agents.specs.Held.{view_by}
use Rattle.agent_makes.specs.Preparing.{Prepares}
use Rattle.heap_agents.specs.Shared.{SharedText, view_if}
use Rattle.agent_makes.specs.Spending.{IsRenewalDue}
use Rattle.agent_keys.proofs.Answered.{found_marked, held_found, missing_units}
use Rattle.agent_keys.proofs.Interned.{entered_found}
use Rattle.heap_agents.proofs.Marks.{possible_in}
use Rattle.agent_keys.proofs.Opened.{found_by_plan, opened_by_plan, opening_found, plans_alone, plans_none, shut_by_plan, string_interned}
use Rattle.agent_keys.proofs.table.intern.Goals as goal

pub mark_interned-requires-clause-held : goal.mark_interned-requires-clause-held
mark_interned-requires-clause-held c = let x = c.args.agent.now in let call = c.search_string in let e = call.ensures in let u = has_key (view_by x).units c.args.s c.requires.known in
    held_found x call.new.text call.new.seats c.requires.held e.there e.same e.noted u.0 (Some c.in-Found.seat.id) (c.in-Found.ensures.searches u.0 u.1).searched.finds.answer

pub mark_interned-requires-clause-known : goal.mark_interned-requires-clause-known
mark_interned-requires-clause-known c = let v : View = view_by c.args.agent.now in let w : View = view_if c.search_string.new.text in let u = has_key v.units c.args.s c.requires.known in
    key_of w.units c.in-Found.seat.id u.0 (entered_found v w u.0 (Some c.in-Found.seat.id) (c.in-Found.ensures.searches u.0 u.1).searched.finds.answer).units

pub mark_interned-requires-clause-call : goal.mark_interned-requires-clause-call
mark_interned-requires-clause-call c = let v : View = view_by c.args.agent.now in let w : View = view_if c.search_string.new.text in let u = has_key v.units c.args.s c.requires.known in
    (u.0, (entered_found v w u.0 (Some c.in-Found.seat.id) (c.in-Found.ensures.searches u.0 u.1).searched.finds.answer).call)

pub returns-in-Found : goal.returns-in-Found
returns-in-Found c = let x = c.args.agent.now in let call = c.search_string in let e = call.ensures in let mark = c.mark_interned in let y : Held = mark.new.self in
    let u = has_key (view_by x).units c.args.s c.requires.known in let us : List ℕ = u.0 in let t = c.in-Found.ensures.searches us u.1 in let f = t.searched.finds in let i : ℕ = c.in-Found.seat.id in
    string_interned x y c.args.s us t.plan (Ok i) u.1
    (found_by_plan x y us t.plan i
    (found_marked x call.new.text call.new.seats c.requires.held e.there e.same e.noted us y mark.ensures.text i mark.ensures.held mark.ensures.marks mark.ensures.marked f)
    (subst (λ (n : Option SharedText). (k : ℕ) → loads_at (view_if n) k ≤ loads_at (view_by x) k + 2) (sym mark.ensures.text) f.few))
    (plans_none x y c.args.s us t.plan mark.ensures.marks.reserve (subst (λ (n : Option SharedText). IsPlan (view_by x) (view_if n) c.args.s us t.plan) (sym mark.ensures.text) t.planned.0))
    (subst (λ (n : Option SharedText). IsForwarded (view_if n) c.args.s i) (sym mark.ensures.text) t.planned.1)

pub renew_for-requires : goal.renew_for-requires
renew_for-requires c = let x = c.args.agent.now in let call = c.search_string in let e = call.ensures in let u = has_key (view_by x).units c.args.s c.requires.known in
    record { held = held_found x call.new.text call.new.seats c.requires.held e.there e.same e.noted u.0 None (c.in-Open.ensures.searches u.0 u.1).searched.finds.answer }

pub take_string-requires-clause-opening : goal.take_string-requires-clause-opening
take_string-requires-clause-opening c = let x = c.args.agent.now in let call = c.search_string in let e = call.ensures in let u = has_key (view_by x).units c.args.s c.requires.known in
    let p = c.renew_for.ensures.prepared.spends.continues in let t = c.in-Open.ensures.searches u.0 u.1 in
    (u.0, string_opening_kept (view_if call.new.text) (view_by c.renew_for.new.agent) u.0 c.in-Open.opening (possible_in call.new.text e.there) p.known c.renew_for.ensures.forms p.sizes p.slots t.planned.3)

pub returns-in-Open : goal.returns-in-Open
returns-in-Open c = let x = c.args.agent.now in let call = c.search_string in let e = call.ensures in let h = has_key (view_by x).units c.args.s c.requires.known in let us : List ℕ = h.0 in
    let u : Held = record x { text = call.new.text; seats = call.new.seats } in let z = c.renew_for.new.agent in let y : Held = c.take_string.new.agent in let o = c.in-Open.opening in
    let t = c.in-Open.ensures.searches us h.1 in let p = c.renew_for.ensures.prepared.spends.continues in let plan : HeaderPlan = header_plan o.sought us in
    let here = possible_in call.new.text e.there in
    let kept : IsStringOpening (view_by z) us o = string_opening_kept (view_by u) (view_by z) us o here p.known c.renew_for.ensures.forms p.sizes p.slots t.planned.3 in
    let words : c.words.result ≡ plan.words = c.words.ensures ∙ t.planned.3.words in
    string_interned x y c.args.s us plan c.take_string.result h.1
    (opened_by_plan x u z y us plan o.opening c.take_string.result
    (opening_found x call.new.text call.new.seats c.requires.held e.there e.same e.noted us o.opening t.searched)
    c.renew_for.ensures.prepared (c.take_string.ensures.takes us kept)
    (λ d. record { due = d.due; ids = d.ids; words = d.words }) (λ d. record { due = d.due; ids = d.ids; words = d.words })
    (subst (λ (n : ℕ). Prepares (IsRenewalDue u n) u z n) words c.renew_for.ensures.renews)
    (subst (λ (n : ℕ). (IsRenewalDue u n → ⊥) → z ≡ u) words c.renew_for.ensures.left))
    (plans_alone x y c.args.s us (view_by u) o here t.planned.1 t.planned.3)
    (subst (λ (i : ℕ). IfOk c.take_string.result (λ j. IsForwarded (view_by y) i j)) t.planned.0 c.take_string.ensures.forwards)

pub returns-in-Shut : goal.returns-in-Shut
returns-in-Shut c = let x = c.args.agent.now in let call = c.search_string in let e = call.ensures in let h = has_key (view_by x).units c.args.s c.requires.known in let us : List ℕ = h.0 in
    let y : Held = record x { text = call.new.text; seats = call.new.seats } in let t = c.in-Shut.ensures.searches us h.1 in let s = t.searched in
    string_interned x y c.args.s us t.plan (Err (Slots c.in-Shut.slots)) h.1
    (shut_by_plan x y us t.plan c.in-Shut.slots (missing_units x call.new.text call.new.seats c.requires.held e.there e.same e.noted us s.finds) s.ends.0 s.ends.1 s.finds.few)
    (plans_none x y c.args.s us t.plan refl t.planned) tt
