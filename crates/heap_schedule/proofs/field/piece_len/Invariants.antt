use Rattle.std.proofs.Common.{◌≡◌, ◌+◌, drop}
use Rattle.std.specs.List.{prefix_len}
use Rattle.heap_schedule.specs.Fields.{differs}
use Rattle.heap_schedule.proofs.field.piece_len.Given as goal

abbrev pub invariant-loop-i : goal.invariant-loop-i
invariant-loop-i l = l.i + prefix_len (differs l.separator) (drop l.i l.bytes) ≡ prefix_len (differs l.separator) l.bytes
