use Rattle.std.proofs.Common.{rules, ◌≡◌, ◌+◌, ◌++◌, ◌∷◌, [], sym, ◌∙◌}
use Rattle.std.specs.String.{string_bytes}
use Rattle.run_sources.specs.Draws.{draw, next, state_after}
use Rattle.run_sources.proofs.Rounds.{after_none, each_none, letters_more, state_more}
use Rattle.run_sources.proofs.texts.word.Goals as goal

pub loop-letter-init : goal.loop-letter-init
loop-letter-init c =
    let y = next c.args.draws.now.state in
    record { text = c.new-text.ensures.bytes ∙ sym (each_none (λ j. (97 + draw (state_after j y) 26) ∷ [])); state = c.draw-len.ensures.state ∙ sym (after_none y) }

pub loop-letter-preserved : goal.loop-letter-preserved
loop-letter-preserved c =
    let y = next c.args.draws.now.state in
    let state = c.loop-letter.draws.state in
    let pushed : string_bytes c.push.new.self ≡ string_bytes c.loop-letter.text ++ (97 + draw state 26) ∷ [] = search rules in
    record {
      text = pushed ∙ letters_more y state c.loop-letter._letter (string_bytes c.loop-letter.text) c.loop-letter.invariant.text c.loop-letter.invariant.state;
      state = c.draw.ensures.state ∙ state_more state y c.loop-letter._letter c.loop-letter.invariant.state;
    }
