use Rattle.heap_rule.specs.declared.view.View.{View}
use Rattle.heap_rule.proofs.MapLemmas.{has_key}
use Rattle.heap_read.proofs.Showing.{forms_held, window_frozen, window_kept}
use Rattle.bench_heap.proofs.readers.sum_of_units.Goals as goal

pub loop-i-init : goal.loop-i-init
loop-i-init c = record {
  text = c.window-window.new.self.reader.belongs;
  shows = λ us h. (c.window-window.ensures.shows us (c.settle.ensures.continues.known.units c.args.s.id us h)).0;
}

pub unit_in-unit-requires-clause-frozen : goal.unit_in-unit-requires-clause-frozen
unit_in-unit-requires-clause-frozen c = let v : View = c.args.text.now.reader.agent.seat.me.0 in let p = has_key v.units c.args.s.id c.requires.known in
    window_frozen c.loop-i.text.reader.agent.seat.me.0 c.window-window.result p.0 (c.loop-i.invariant.shows p.0 p.1)

pub loop-i-preserved : goal.loop-i-preserved
loop-i-preserved c = let u : View = c.loop-i.text.reader.agent.seat.me.0 in let w : View = c.unit_in-unit.new.self.reader.agent.seat.me.0 in let i = c.loop-i.invariant in record {
  text = c.unit_in-unit.new.self.reader.belongs;
  shows = λ us h. window_kept u w (forms_held u w c.unit_in-unit.ensures.forms.0) c.window-window.result us c.unit_in-unit.ensures.reads.known (i.shows us h);
}
