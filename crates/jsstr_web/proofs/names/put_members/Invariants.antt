use Rattle.std.proofs.Common.{◌≡◌, ◌≤◌, length}
use Rattle.jsstr_web.proofs.names.put_members.Given as goal

abbrev pub invariant-loop-member : goal.invariant-loop-member
invariant-loop-member l = record {
  within : l.to ≤ length l.room;
  room : length l.room ≡ length l.initial.room;
}
