use Rattle.std.proofs.Common.{inl}
use Rattle.heap_rule.proofs.MapLemmas.{key_of}
use Rattle.test_heap.proofs.table_forwards.forward.Goals as goal

pub load_form-requires-clause-known : goal.load_form-requires-clause-known
load_form-requires-clause-known c = let u = c.requires.may.3 in inl (key_of c.thin_step-step.new.self.seat.me.0.units c.args.id u.0 (c.thin_step-step.ensures.known.units c.args.id u.0 u.1))
