use Rattle.std.proofs.Common.{◌≡◌, ◌++◌}
use Rattle.heap_schedule.specs.Shown.{string_lines}
use Rattle.heap_schedule.proofs.show.add_strings.Given as goal

abbrev pub invariant-loop-id : goal.invariant-loop-id
invariant-loop-id l = l.out.items ≡ l.fn.out.items ++ string_lines l.state l.id
