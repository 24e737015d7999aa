use Rattle.std.proofs.Common.{◌≡◌, ◌+◌, length, map}
use Rattle.heap_schedule.specs.Fields.{fields_between}
use Rattle.heap_schedule.specs.Lines.{turn_named}
use Rattle.heap_schedule.specs.Text.{lines_from}
use Rattle.heap_schedule.proofs.Turns.{behind}
use Rattle.heap_schedule.proofs.text.read_lines.Given as goal

abbrev pub invariant-lines : goal.invariant-lines
invariant-lines l = behind (map turn_named l.lines.items) (lines_from (length l.lines.items + 2) (fields_between 10 l.rest))
    ≡ lines_from 2 (fields_between 10 l.fn.text)

abbrev pub decreases-lines : goal.decreases-lines
decreases-lines l = length l.rest
