use Rattle.heap_rule.specs.declared.view.View.{View}
use Rattle.test_heap.specs.Ropes.{bytes_of}
use Rattle.test_heap.proofs.Making.{may_thin}
use Rattle.test_heap.proofs.table_forwards.pair.Goals as goal

pub returns-clause-may : goal.returns-clause-may
returns-clause-may c = let w : View = c.eight.new.agent.seat.me.0 in let e = c.in-Some-eight.ensures in let t = c.in-Some.target in let us = bytes_of c.args.word in let s = c.in-Some.ensures.slot in
    may_thin w c.in-Some-eight.id c.in-Some-eight.start t us e.form e.units (e.kept t us c.in-Some.ensures.units) s.0 (e.slots s.0 t s.1)
