use Rattle.std.proofs.Common.{arith}
use Rattle.bench_heap.proofs.ropes.cut_often.Goals as goal

pub slice-requires-clause-within : goal.slice-requires-clause-within
slice-requires-clause-within c = let k = c.loop-i.invariant.known in let n = k.2 in (k.0, k.1, omega arith, omega arith)

pub loop-i-preserved : goal.loop-i-preserved
loop-i-preserved c = let k = c.loop-i.invariant.known in let t = c.slice.ensures in record {
  text = c.slice.new.self.reader.belongs;
  settled = t.continues.known.settled c.args.s.id c.loop-i.invariant.settled;
  known = (k.0, t.continues.known.units c.args.s.id k.0 k.1, k.2);
}
