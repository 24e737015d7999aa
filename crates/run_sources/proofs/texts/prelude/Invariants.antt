use Rattle.std.proofs.Common.{◌≡◌}
use Rattle.std.specs.String.{string_bytes}
use Rattle.run_sources.specs.Draws.{joined_up_to}
use Rattle.run_sources.specs.Lines.{word_line}
use Rattle.run_sources.specs.Texts.{before, drawn_word}
use Rattle.run_sources.proofs.texts.prelude.Given as goal

abbrev pub invariant-loop-i : goal.invariant-loop-i
invariant-loop-i l = record {
  text : string_bytes l.text ≡ joined_up_to (λ i. word_line i (drawn_word (before l.fn.draws.state i))) l.i;
  state : l.draws.state ≡ before l.fn.draws.state l.i;
}
