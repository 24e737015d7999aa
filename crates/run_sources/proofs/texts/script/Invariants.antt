use Rattle.std.proofs.Common.{◌≡◌, ◌++◌, ◌*◌, codes}
use Rattle.std.specs.String.{string_bytes}
use Rattle.run_sources.specs.Draws.{state_after, joined_up_to}
use Rattle.run_sources.specs.Texts.{drawn_line}
use Rattle.run_sources.proofs.texts.script.Given as goal

abbrev pub invariant-loop-line : goal.invariant-loop-line
invariant-loop-line l = record {
  text : string_bytes l.text ≡ codes "let acc = '';\nlet n = 0;\n" ++ joined_up_to (λ k. drawn_line (state_after (4 * k) l.fn.draws.state)) l._line;
  state : l.draws.state ≡ state_after (4 * l._line) l.fn.draws.state;
}
