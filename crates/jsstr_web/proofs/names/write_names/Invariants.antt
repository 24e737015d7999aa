use Rattle.std.proofs.Common.{◌≤◌, length}
use Rattle.jsstr_web.proofs.names.write_names.Given as goal

abbrev pub invariant-loop-binding : goal.invariant-loop-binding
invariant-loop-binding l = record {
  within : l.to ≤ length l.room;
}
