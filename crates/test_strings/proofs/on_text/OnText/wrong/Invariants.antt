use Rattle.heap_read.specs.Readers.{MovesView}
use Rattle.test_strings.specs.Turns.{Turns}
use Rattle.test_strings.proofs.on_text.OnText.wrong.Given as goal

abbrev pub invariant-loop-line : goal.invariant-loop-line
invariant-loop-line l = MovesView Turns l.fn.self.text.reader l.self.text.reader
