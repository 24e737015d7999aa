use Rattle.std.proofs.Common.{◌≡◌, length}
use Rattle.heap_schedule.specs.Fields.{all_fields, fields_between}
use Rattle.heap_schedule.proofs.Pieces.{behind}
use Rattle.heap_schedule.proofs.field.fields.Given as goal

abbrev pub invariant-fields : goal.invariant-fields
invariant-fields l = behind l.fields.items (all_fields (fields_between 32 l.rest)) ≡ all_fields (fields_between 32 l.fn.line)

abbrev pub decreases-fields : goal.decreases-fields
decreases-fields l = length l.rest
