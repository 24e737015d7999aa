use Rattle.heap_read.specs.Readers.{MovesView}
use Rattle.test_strings.specs.Turns.{Turns}
use Rattle.test_strings.proofs.on_text.OnText.doubled.Given as goal

abbrev pub invariant-loop-turn : goal.invariant-loop-turn
invariant-loop-turn l = MovesView Turns l.fn.self.text.reader l.self.text.reader
