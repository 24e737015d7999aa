use Rattle.std.proofs.Common.{◌≡◌, length}
use Rattle.heap_schedule.specs.Lines.{field_names}
use Rattle.heap_schedule.proofs.Pieces.{behind}
use Rattle.heap_schedule.proofs.line.names_in.Given as goal

abbrev pub invariant-names : goal.invariant-names
invariant-names l = behind l.names.items (field_names l.rest) ≡ field_names l.fn.fields

abbrev pub decreases-names : goal.decreases-names
decreases-names l = length l.rest
