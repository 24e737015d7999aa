use Rattle.std.proofs.Common.{◌∙◌, ap, subst, sym}
use Rattle.heap_rule.specs.declared.size.HeapSize.{HeapSize}
use Rattle.heap_rule.specs.declared.view.View.{View}
use Rattle.heap_rule.specs.Maps.{Has}
use Rattle.heap_rule.proofs.MapLemmas.{insert_same}
use Rattle.test_heap.specs.Ropes.{bytes_of}
use Rattle.test_heap.proofs.Making.{may_take}
use Rattle.test_heap.proofs.table_forwards.interned.Goals as goal

pub claim_slot-requires-clause-may : goal.claim_slot-requires-clause-may
claim_slot-requires-clause-may c = let v : View = c.eight.new.agent.seat.me.0 in let e = c.in-Some.ensures in
    may_take v c.in-Some.id c.in-Some._start (bytes_of c.args.word) (ap (λ (z : HeapSize). z.slots) e.belongs.1 ∙ c.requires.one) e.form e.units

pub returns-in-Won-clause-units : goal.returns-in-Won-clause-units
returns-in-Won-clause-units c = c.claim_slot.ensures.known.units c.in-Some.id (bytes_of c.args.word) c.in-Some.ensures.units

pub returns-in-Won-clause-slot : goal.returns-in-Won-clause-slot
returns-in-Won-clause-slot c = let v : View = c.eight.new.agent.seat.me.0 in let id = c.in-Some.id in
    (0, subst (λ (y : View). Has y.slots 0 id) (sym c.in-Won.ensures.view) (insert_same v.slots 0 id))
