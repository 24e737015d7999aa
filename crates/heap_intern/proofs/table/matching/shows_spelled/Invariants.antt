use Rattle.std.proofs.Common.{◌≡◌, ℕ, ◌+◌, ◌<◌, ◌≤◌, drop, get_or, length}
use Rattle.heap_bytes.specs.Spellings.{IsReadable, spelling_units}
use Rattle.heap_read.specs.Frozen.{HasLane, IsLearned}
use Rattle.heap_read.specs.Readers.{view_in}
use Rattle.heap_read.specs.Reads.{KeepsForms, OnlyLoads}
use Rattle.heap_intern.proofs.table.matching.shows_spelled.Given as goal

abbrev pub invariant-loop-count : goal.invariant-loop-count
invariant-loop-count g l = record {
  long : length l.room ≡ 65;
  heap : l.reader.heap ≡ l.fn.reader.heap;
  reads : OnlyLoads (view_in l.fn.reader) (view_in l.reader);
  forms : KeepsForms (view_in l.fn.reader) (view_in l.reader);
  learned : IsLearned (view_in l.reader);
  within : l.done ≤ length (spelling_units l.source);
  read : IsReadable l.rest;
  left : spelling_units l.rest ≡ drop l.done (spelling_units l.source);
  same : (k : ℕ) → k < l.done → HasLane (view_in l.reader) l.w.wide l.w.start (l.w.offset + k) (get_or (spelling_units l.source) k 0);
}

abbrev pub decreases-loop-count : goal.decreases-loop-count
decreases-loop-count g l = length (spelling_units l.rest)
