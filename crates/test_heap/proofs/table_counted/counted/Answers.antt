use Rattle.std.proofs.Common.{false}
use Rattle.js_header.specs.declared.form.Form.TheVariants.{Flat}
use Rattle.heap_rule.proofs.MapLemmas.{key_of}
use Rattle.js_units.specs.Lanes.{is_wide}
use Rattle.heap_intern.proofs.Hashes.{no_hashes}
use Rattle.test_heap.proofs.table_counted.counted.Goals as goal

pub intern_counted-requires-clause-known : goal.intern_counted-requires-clause-known
intern_counted-requires-clause-known g c = key_of c.make_flat.new.self.reader.agent.seat.me.0.units c.in-Ok.s.id c.args.units.now c.in-Ok.ensures.units

pub intern_counted-requires-clause-settled : goal.intern_counted-requires-clause-settled
intern_counted-requires-clause-settled g c = let f = c.in-Ok.ensures.form in (Flat (is_wide c.args.units.now) f.0 false, f.1, λ x. x)

pub intern_counted-requires-clause-hashed : goal.intern_counted-requires-clause-hashed
intern_counted-requires-clause-hashed g c = no_hashes c.make_flat.new.self.reader.agent.seat.me.0
