use Rattle.std.proofs.Common.{◌≡◌, ◌*◌, ◌≤◌, count_ones, sum_by, take}
use Rattle.heap_ids.proofs.ids.IdSet.count.Given as goal

abbrev pub invariant-loop-i : goal.invariant-loop-i
invariant-loop-i l = record {
  counted : l.count ≡ sum_by count_ones (take l.i l.words);
  most : l.count ≤ 64 * l.i;
}
