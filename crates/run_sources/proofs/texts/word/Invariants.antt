use Rattle.std.proofs.Common.{◌≡◌}
use Rattle.std.specs.String.{string_bytes}
use Rattle.run_sources.specs.Draws.{state_after, joined_up_to, next, draw}
use Rattle.run_sources.proofs.texts.word.Given as goal
use Rattle.std.specs.Prelude.{◌∷◌, ◌+◌, []}

abbrev pub invariant-loop-letter : goal.invariant-loop-letter
invariant-loop-letter l = record {
  text : string_bytes l.text ≡ joined_up_to (λ j. (97 + draw (state_after j (next l.fn.draws.state)) 26) ∷ []) l._letter;
  state : l.draws.state ≡ state_after l._letter (next l.fn.draws.state);
}
