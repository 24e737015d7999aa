use Rattle.std.proofs.Common.{◌≡◌, ℕ, Some, None, ap, refl, sym, subst, ◌∙◌, eq-eqb, eqb-true}
use Rattle.std.specs.FinMap.{FinMap, get}
use Rattle.std.specs.Ordering.{nat_cmp}
use Rattle.heap_rule.specs.declared.view.View.{View}
use Rattle.heap_rule.specs.Maps.{Has}
use Rattle.heap_read.proofs.Showing.{forms_held}
use Rattle.heap_intern.proofs.Adopting.{here_once}
use Rattle.heap_intern.proofs.Going.{free_there, looks_slot, stands_there}
use Rattle.heap_intern.proofs.Visiting.{none_there}
use Rattle.heap_intern.proofs.table.adopting.has_string.Goals as goal

pub returns-in-Some-clause-looks : goal.returns-in-Some-clause-looks
returns-in-Some-clause-looks g c = looks_slot c.args.reader.now.agent.seat.me.0 c.load_slot.new.self.seat.me.0 c.args.slot _ c.load_slot.ensures.known c.in-Some.ensures.view

pub returns-in-None-clause-looks : goal.returns-in-None-clause-looks
returns-in-None-clause-looks g c = looks_slot c.args.reader.now.agent.seat.me.0 c.load_slot.new.self.seat.me.0 c.args.slot 0 c.load_slot.ensures.known c.in-None.ensures.view

pub returns-in-Some-clause-forms : goal.returns-in-Some-clause-forms
returns-in-Some-clause-forms g c = forms_held c.args.reader.now.agent.seat.me.0 c.load_slot.new.self.seat.me.0 c.load_slot.ensures.forms

pub returns-in-None-clause-forms : goal.returns-in-None-clause-forms
returns-in-None-clause-forms g c = forms_held c.args.reader.now.agent.seat.me.0 c.load_slot.new.self.seat.me.0 c.load_slot.ensures.forms

pub returns-in-Some-clause-loads : goal.returns-in-Some-clause-loads
returns-in-Some-clause-loads g c = here_once c.args.reader.now.agent.seat.me.0 c.load_slot.new.self.seat.me.0 c.args.slot _ None c.in-Some.ensures.view

pub returns-in-None-clause-loads : goal.returns-in-None-clause-loads
returns-in-None-clause-loads g c = here_once c.args.reader.now.agent.seat.me.0 c.load_slot.new.self.seat.me.0 c.args.slot 0 None c.in-None.ensures.view

pub returns-in-Some-clause-stands : goal.returns-in-Some-clause-stands
returns-in-Some-clause-stands g c = let u : View = c.load_slot.new.self.seat.me.0 in let k : ℕ = c.args.slot in let t : ℕ = c.in-Some.found in
    let there : Has u.slots k t = (stands_there c.args.reader.now.agent.seat.me.0 u k t _ None refl c.in-Some.ensures.view).0 in
    (λ e. subst (λ (i : ℕ). Has u.slots k i) (eqb-true t c.args.id e) there, λ h. let same : Some t ≡ Some c.args.id = sym there ∙ h in let is : t ≡ c.args.id = cc in eq-eqb t c.args.id is)

pub returns-in-None-clause-stands : goal.returns-in-None-clause-stands
returns-in-None-clause-stands g c = let v : View = c.args.reader.now.agent.seat.me.0 in let u : View = c.load_slot.new.self.seat.me.0 in
    let none : get u.slots c.args.slot ≡ None = ap (λ (m : FinMap nat_cmp ℕ). get m c.args.slot)
    (free_there v u c.args.slot 0 None refl c.in-None.ensures.view) ∙ none_there v.slots c.args.slot 0 refl c.in-None.ensures.found.again in
    (λ e. absurd (cc), λ h. let bad : None ≡ Some c.args.id = sym none ∙ h in absurd (cc))
