use Rattle.std.proofs.Common.{◌≡◌, ◌+◌, ◌++◌}
use Rattle.std.specs.VecDeque.{deque_capacity, deque_len}
use Rattle.heap_reserve.specs.Reserves.{kept_ids}
use Rattle.heap_reserve.specs.Trying.{ids_from}
use Rattle.heap_reserve.proofs.reserve.Reserve.keep_all.Given as goal

abbrev pub invariant-loop-done : goal.invariant-loop-done
invariant-loop-done l = record {
  ids : kept_ids l.self ≡ kept_ids l.fn.self ++ ids_from l.first l.done;
  words : (l.self.start ≡ l.fn.self.start) × (l.self.end ≡ l.fn.self.end);
  len : deque_len l.self.ids ≡ deque_len l.fn.self.ids + l.done;
  capacity : deque_capacity l.self.ids ≡ deque_capacity l.fn.self.ids;
}
