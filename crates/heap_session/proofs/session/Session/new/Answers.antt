use Rattle.std.proofs.Common.{◌∙◌, arith}
use Rattle.heap_session.specs.Sound.{limit_high}
use Rattle.heap_session.proofs.Lately.{kept_none}
use Rattle.heap_session.proofs.NotesKept.{none_noted}
use Rattle.heap_session.proofs.session.Session.new.Goals as goal

pub invariant_of-result : goal.invariant_of-result
invariant_of-result g c = record {
  one_limit = c.new.ensures.limit ∙ c.units.ensures;
  last_kept = kept_none c.new.result.reader.agent.seat.me.0 c.none.result c.none.ensures;
  older_kept = kept_none c.new.result.reader.agent.seat.me.0 c.none-2.result c.none-2.ensures;
  singles_kept = c.none-3.ensures c.new.result.reader.agent.seat.me.0;
  recent_kept = c.none-4.ensures c.new.result.reader.agent.seat.me.0;
  keys_kept = c.none-5.ensures c.new.result.reader.agent.seat.me.0;
  hashes_noted = none_noted c.new.result.reader.agent.seat.me.0 c.none-6.result c.none-6.ensures;
}

pub new-requires-clause-most : goal.new-requires-clause-most
new-requires-clause-most g c = let a = limit_high c.args.limit in let e = c.units.ensures in omega arith
