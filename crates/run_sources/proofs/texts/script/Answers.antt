use Rattle.std.proofs.Common.{rules, ◌≡◌, ◌++◌, ◌*◌, ℕ, List, codes, sym, ap, ◌∙◌}
use Rattle.std.specs.String.{string_bytes}
use Rattle.run_sources.specs.Draws.{state_after}
use Rattle.run_sources.specs.Texts.{drawn_line}
use Rattle.run_sources.proofs.Rounds.{after_none, each_none, lines_more, rounds_more}
use Rattle.run_sources.proofs.texts.script.Goals as goal

pub loop-line-init : goal.loop-line-init
loop-line-init c =
    let x = c.args.draws.now.state in
    record {
      text = c.in_ok-text.ensures.ok ∙ ap (λ (rest : List ℕ). codes "let acc = '';\nlet n = 0;\n" ++ rest) (sym (each_none (λ k. drawn_line (state_after (4 * k) x))));
      state = sym (after_none x);
    }

pub loop-line-preserved : goal.loop-line-preserved
loop-line-preserved c =
    let x = c.args.draws.now.state in
    let l = c.loop-line._line in
    let line = string_bytes c.in_ok-drawn_line.field-0 in
    let pushed : string_bytes c.push_str.new.self ≡ string_bytes c.loop-line.text ++ line = search rules in
    record {
      text = pushed ∙ lines_more x c.loop-line.draws.state l (codes "let acc = '';\nlet n = 0;\n") (string_bytes c.loop-line.text) line c.loop-line.invariant.text c.loop-line.invariant.state
          c.in_ok-drawn_line.ensures.text;
      state = c.drawn_line.ensures.state ∙ rounds_more 4 x c.loop-line.draws.state l c.loop-line.invariant.state;
    }
