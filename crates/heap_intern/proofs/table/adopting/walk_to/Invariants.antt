use Rattle.std.proofs.Common.{◌≡◌, ℕ, List}
use Rattle.heap_rule.specs.Maps.{Has}
use Rattle.heap_read.specs.Readers.{view_in}
use Rattle.heap_intern.proofs.Adopting.{IsAhead}
use Rattle.heap_intern.proofs.table.adopting.walk_to.Given as goal

abbrev pub invariant-loop-r : goal.invariant-loop-r
invariant-loop-r g l = record {
  heap : l.reader.heap ≡ l.fn.reader.heap;
  ahead : (us : List ℕ) → Has (view_in l.fn.reader).units l.id us → IsAhead (view_in l.fn.reader) (view_in l.reader) us l.id l.r;
}
