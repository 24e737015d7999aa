use Rattle.std.proofs.Common.{◌+◌, ℕ, None, ap, refl, ◌∙◌, arith}
use Rattle.std.specs.FinMap.{FinMap, get}
use Rattle.std.specs.Ordering.{nat_cmp}
use Rattle.heap_rule.specs.declared.view.View.{View}
use Rattle.heap_read.proofs.Showing.{forms_held}
use Rattle.heap_intern.specs.Visits.{entries}
use Rattle.heap_intern.proofs.Going.{free_there, looks_slot, stands_there}
use Rattle.heap_intern.proofs.Loading.{loads_after, loads_once}
use Rattle.heap_intern.proofs.Wanting.{wanted_kept}
use Rattle.heap_intern.proofs.Visiting.{none_there, visited_after, wanted_stays}
use Rattle.heap_intern.proofs.table.finding.look.Goals as goal

pub visit_used-requires-clause-used : goal.visit_used-requires-clause-used
visit_used-requires-clause-used g c = stands_there c.args.reader.now.agent.seat.me.0 c.load_slot.new.self.seat.me.0 c.args.k c.in-Some.t _ None refl c.in-Some.ensures.view

pub visit_used-requires-clause-wanted : goal.visit_used-requires-clause-wanted
visit_used-requires-clause-wanted g c = wanted_stays c.args.reader.now.agent.seat.me.0 c.load_slot.new.self.seat.me.0
    c.args.reader.now.belongs.5 c.load_slot.ensures.known (forms_held c.args.reader.now.agent.seat.me.0 c.load_slot.new.self.seat.me.0
    c.load_slot.ensures.forms) c.args.wanted.now c.requires.wanted

pub returns-in-Some-clause-looked : goal.returns-in-Some-clause-looked
returns-in-Some-clause-looked g c us h = let v : View = c.args.reader.now.agent.seat.me.0 in
    let u : View = c.load_slot.new.self.seat.me.0 in let w : View = c.visit_used.new.reader.agent.seat.me.0 in let k = c.load_slot.ensures.known in
    let forms = forms_held v u c.load_slot.ensures.forms in
    visited_after v u w us c.args.k (looks_slot v u c.args.k _ k c.in-Some.ensures.view) forms c.visit_used.result
    (c.visit_used.ensures.visited us (wanted_kept v u k forms c.args.wanted.now us h))

pub returns-in-None-clause-looked : goal.returns-in-None-clause-looked
returns-in-None-clause-looked g c us h = let v : View = c.args.reader.now.agent.seat.me.0 in let u : View = c.load_slot.new.self.seat.me.0 in (
  looks_slot v u c.args.k _ c.load_slot.ensures.known c.load_slot.ensures.view,
  forms_held v u c.load_slot.ensures.forms,
  ap (λ (m : FinMap nat_cmp ℕ). get m c.args.k) (free_there v u c.args.k 0 None refl c.in-None.ensures.view) ∙ none_there v.slots c.args.k 0 refl c.in-None.ensures.found.again,
)

pub returns-in-Some-clause-loads : goal.returns-in-Some-clause-loads
returns-in-Some-clause-loads g c = let v : View = c.args.reader.now.agent.seat.me.0 in let u : View = c.load_slot.new.self.seat.me.0 in
    let w : View = c.visit_used.new.reader.agent.seat.me.0 in let n : ℕ = entries c.visit_used.result in
    loads_after v u w c.args.k 1 n (n + 1) c.args.steps.now c.tick.new.self c.visit_used.new.steps
    (loads_once v u c.args.k _ c.args.steps.now c.tick.new.self None c.in-Some.ensures.view c.tick.ensures) c.visit_used.ensures.loads (omega arith)

pub returns-in-None-clause-loads : goal.returns-in-None-clause-loads
returns-in-None-clause-loads g c = let v : View = c.args.reader.now.agent.seat.me.0 in let u : View = c.load_slot.new.self.seat.me.0 in
    loads_once v u c.args.k _ c.args.steps.now c.tick.new.self None c.load_slot.ensures.view c.tick.ensures
