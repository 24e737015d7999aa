use Rattle.std.proofs.Common.{length, length-set, arith}
use Rattle.agent_keys.proofs.Batched.{begins, ends_at, goes_on, next_end, span_short, stops}
use Rattle.agent_keys.proofs.batch.intern_many.Goals as goal

pub loop-k-init : goal.loop-k-init
loop-k-init c = let x = c.args.agent.now in record {
  held = c.requires.held;
  ends = c.requires.ends;
  room = c.requires.room;
  small = omega arith;
  whole = begins x c.args.units.now c.args.ends.now c.args.ids.now;
}

pub offset_bounds-units-from : goal.offset_bounds-units-from
offset_bounds-units-from c = let small = c.loop-k.invariant.small in record { fits = omega (arith, small) }

pub slice_bounds-intern_units-count : goal.slice_bounds-intern_units-count
slice_bounds-intern_units-count c = (next_end c.loop-k.k c.args.ends.now c.loop-k-test.true c.loop-k.from (length c.args.units.now) c.loop-k.invariant.ends).0

pub slice_bounds-intern_units-start : goal.slice_bounds-intern_units-start
slice_bounds-intern_units-start c = let e = next_end c.loop-k.k c.args.ends.now c.loop-k-test.true c.loop-k.from (length c.args.units.now) c.loop-k.invariant.ends in omega (arith, e.0, e.1)

pub slice_bounds-intern_units-end : goal.slice_bounds-intern_units-end
slice_bounds-intern_units-end c = let e = next_end c.loop-k.k c.args.ends.now c.loop-k-test.true c.loop-k.from (length c.args.units.now) c.loop-k.invariant.ends in omega (arith, e.0, e.1)

pub intern_units-answer-requires-clause-held : goal.intern_units-answer-requires-clause-held
intern_units-answer-requires-clause-held c = c.loop-k.invariant.held

pub intern_units-answer-requires-clause-short : goal.intern_units-answer-requires-clause-short
intern_units-answer-requires-clause-short c = span_short c.loop-k.k c.args.ends.now c.loop-k-test.true c.loop-k.from c.args.units.now c.loop-k.invariant.ends

pub returns-in-Err-clause-interns : goal.returns-in-Err-clause-interns
returns-in-Err-clause-interns c = let inv = c.loop-k.invariant in let call = c.intern_units-answer in
    stops c.loop-k.k c.args.ends.now c.loop-k-test.true c.args.agent.now c.loop-k.agent c.args.units.now c.args.ids.now c.loop-k.ids c.loop-k.from inv.whole call.new.agent c.in-Err.full c.in-Err.ensures

pub loop-k-preserved : goal.loop-k-preserved
loop-k-preserved c = let inv = c.loop-k.invariant in let call = c.intern_units-answer in
    let e = next_end c.loop-k.k c.args.ends.now c.loop-k-test.true c.loop-k.from (length c.args.units.now) inv.ends in record {
      held = c.in-Ok.ensures.held;
      ends = e.3;
      room = let long = length-set c.loop-k.ids c.loop-k.k c.in-Ok.id in omega (arith, long, inv.room);
      small = (c.type_inv.ends c.loop-k.k).fits;
      whole = goes_on c.loop-k.k c.args.ends.now c.loop-k-test.true c.args.agent.now c.loop-k.agent c.args.units.now c.args.ids.now c.loop-k.ids c.loop-k.from inv.whole
          call.new.agent c.in-Ok.id (omega (arith, inv.room, c.loop-k-test.true)) c.in-Ok.ensures;
    }

pub returns-clause-interns : goal.returns-clause-interns
returns-clause-interns c = let inv = c.loop-k.invariant in
    ends_at c.args.agent.now c.loop-k.agent c.args.units.now c.args.ends.now c.args.ids.now c.loop-k.ids c.loop-k.from c.loop-k.k (length c.args.ends.now) inv.whole (omega (arith, c.loop-k-test.false))
    (omega (arith, c.loop-k-test.false, c.loop-k.auto.k-end))
