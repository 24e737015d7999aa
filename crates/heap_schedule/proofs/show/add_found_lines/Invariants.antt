use Rattle.std.proofs.Common.{◌≡◌, ◌++◌}
use Rattle.heap_schedule.specs.Shown.{found_lines}
use Rattle.heap_schedule.proofs.show.add_found_lines.Given as goal

abbrev pub invariant-loop-k : goal.invariant-loop-k
invariant-loop-k l = l.out.items ≡ l.fn.out.items ++ found_lines l.found l.k
