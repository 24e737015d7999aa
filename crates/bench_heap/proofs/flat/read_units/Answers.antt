use Rattle.std.proofs.Common.{arith}
use Rattle.bench_heap.proofs.flat.read_units.Goals as goal

pub unit_at-unit-requires-clause-within : goal.unit_at-unit-requires-clause-within
unit_at-unit-requires-clause-within c = let k = c.loop-i.invariant.known in let n = k.2 in (k.0, k.1, omega arith)

pub loop-i-preserved : goal.loop-i-preserved
loop-i-preserved c = let k = c.loop-i.invariant.known in let t = c.unit_at-unit.ensures in record {
  text = c.unit_at-unit.new.self.reader.belongs;
  settled = t.reads.known.settled c.args.s.id c.loop-i.invariant.settled;
  known = (k.0, t.reads.known.units c.args.s.id k.0 k.1, k.2);
}
