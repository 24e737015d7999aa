use Rattle.plain_store.proofs.Consistency.{nothing_yet}
use Rattle.plain_store.proofs.PlainStore.new.Goals as goal

pub invariant_of-result : goal.invariant_of-result
invariant_of-result c = record { consistent = rw (c.new.ensures.items, c.new-2.ensures.items, c.new-3.ensures) nothing_yet }
