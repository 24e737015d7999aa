use Rattle.std.proofs.Common.{◌≡◌, ◌-◌, ◌<◌, ◌≤◌}
use Rattle.heap_read.specs.Readers.{view_in}
use Rattle.heap_read.specs.Reads.{Continues, HoldsForms}
use Rattle.heap_text.specs.Texts.{KeepsOwn}
use Rattle.heap_reserve.specs.Reserves.{IsClaimed, IsReserve}
use Rattle.heap_reserve.proofs.reserve.Reserve.claim_ids.Given as goal

abbrev pub invariant-pieces : goal.invariant-pieces
invariant-pieces g l = record {
  heap : l.reader.heap ≡ l.fn.reader.heap;
  continues : Continues (view_in l.fn.reader) (view_in l.reader);
  own : KeepsOwn (view_in l.fn.reader) (view_in l.reader);
  forms : HoldsForms (view_in l.fn.reader) (view_in l.reader);
  reserve : IsReserve (view_in l.reader) l.self;
  some : 0 < l.done;
  within : l.done ≤ l.ids;
  claimed : IsClaimed (view_in l.fn.reader) (view_in l.reader) l.fn.self l.self l.done 0;
}

abbrev pub decreases-pieces : goal.decreases-pieces
decreases-pieces g l = l.ids - l.done
