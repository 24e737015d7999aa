use Rattle.heap_read.specs.Readers.{MovesView}
use Rattle.test_strings.specs.Turns.{Turns}
use Rattle.test_strings.proofs.on_text.OnText.rope.Given as goal

abbrev pub invariant-loop-k : goal.invariant-loop-k
invariant-loop-k l = MovesView Turns l.fn.self.text.reader l.self.text.reader
