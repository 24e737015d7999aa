use Rattle.std.proofs.Common.{◌≡◌, ◌+◌, ℕ, Some, None, ap, refl, ◌∙◌, arith}
use Rattle.std.specs.FinMap.{FinMap, get}
use Rattle.std.specs.Ordering.{nat_cmp}
use Rattle.heap_rule.specs.declared.view.View.{View}
use Rattle.heap_read.proofs.Showing.{forms_held}
use Rattle.heap_intern.proofs.Adopting.{adopted_after, here_once, here_twice}
use Rattle.heap_intern.proofs.Going.{forms_trans, free_there, looks_slot, stands_there}
use Rattle.heap_intern.proofs.Visiting.{none_there}
use Rattle.heap_intern.proofs.table.adopting.adopt.Goals as goal

pub enter-requires-clause-used : goal.enter-requires-clause-used
enter-requires-clause-used g c = stands_there c.args.reader.now.agent.seat.me.0 c.load_slot.new.self.seat.me.0 c.args.slot c.in-Some.id _ None refl c.in-Some.ensures.view

pub returns-clause-adopts : goal.returns-clause-adopts
returns-clause-adopts g c = let v : View = c.args.reader.now.agent.seat.me.0 in let u : View = c.load_slot.new.self.seat.me.0 in let w : View = c.enter.new.reader.agent.seat.me.0 in
    adopted_after v u w c.args.slot c.in-Some.id (looks_slot v u c.args.slot _ c.load_slot.ensures.known c.in-Some.ensures.view) c.enter.ensures.adopted

pub returns-in-None-clause-adopts : goal.returns-in-None-clause-adopts
returns-in-None-clause-adopts g c = let v : View = c.args.reader.now.agent.seat.me.0 in let u : View = c.load_slot.new.self.seat.me.0 in (
  looks_slot v u c.args.slot 0 c.load_slot.ensures.known c.in-None.ensures.view,
  ap (λ (m : FinMap nat_cmp ℕ). get m c.args.slot) (free_there v u c.args.slot 0 None refl c.in-None.ensures.view) ∙ none_there v.slots c.args.slot 0 refl c.in-None.ensures.found.again,
)

pub returns-clause-again : goal.returns-clause-again
returns-clause-again g c i h = let same : c.in-Some.id + 1 ≡ i + 1 = c.in-Some.ensures.found.again i h in let is : c.in-Some.id ≡ i = omega arith in ap Some is

pub returns-in-None-clause-again : goal.returns-in-None-clause-again
returns-in-None-clause-again g c i h = let none : 0 ≡ i + 1 = c.in-None.ensures.found.again i h in absurd (omega arith)

pub returns-clause-forms : goal.returns-clause-forms
returns-clause-forms g c = let v : View = c.args.reader.now.agent.seat.me.0 in let u : View = c.load_slot.new.self.seat.me.0 in let w : View = c.enter.new.reader.agent.seat.me.0 in
    forms_trans v u w (forms_held v u c.load_slot.ensures.forms) c.enter.ensures.forms

pub returns-in-None-clause-forms : goal.returns-in-None-clause-forms
returns-in-None-clause-forms g c = forms_held c.args.reader.now.agent.seat.me.0 c.load_slot.new.self.seat.me.0 c.load_slot.ensures.forms

pub returns-clause-loads : goal.returns-clause-loads
returns-clause-loads g c = let v : View = c.args.reader.now.agent.seat.me.0 in let u : View = c.load_slot.new.self.seat.me.0 in let w : View = c.enter.new.reader.agent.seat.me.0 in
    here_twice v u w c.args.slot (here_once v u c.args.slot _ None c.in-Some.ensures.view) c.enter.ensures.loads

pub returns-in-None-clause-loads : goal.returns-in-None-clause-loads
returns-in-None-clause-loads g c = here_once c.args.reader.now.agent.seat.me.0 c.load_slot.new.self.seat.me.0 c.args.slot 0 None c.in-None.ensures.view
