use Rattle.heap_intern.proofs.Hashes.{no_hashes}
use Rattle.heap_intern.proofs.table.probing.intern_by.Goals as goal

pub intern_counted-requires-clause-hashed : goal.intern_counted-requires-clause-hashed
intern_counted-requires-clause-hashed g c = no_hashes c.args.reader.now.agent.seat.me.0
