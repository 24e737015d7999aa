use Rattle.std.proofs.Common.{◌≡◌, ◌≤◌, length}
use Rattle.jsstr_web.proofs.names.put_list.Given as goal

abbrev pub invariant-loop-s : goal.invariant-loop-s
invariant-loop-s l = record {
  within : l.to ≤ length l.room;
  room : length l.room ≡ length l.initial.room;
}
