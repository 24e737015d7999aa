use Rattle.std.proofs.Common.{rules, ◌≡◌, ◌++◌, ℕ, List, sym, ap, ◌∙◌, arith}
use Rattle.std.specs.String.{string_bytes}
use Rattle.run_sources.specs.Draws.{joined_up_to}
use Rattle.run_sources.specs.Lines.{all_line, word_line}
use Rattle.run_sources.specs.Texts.{before, drawn_word}
use Rattle.run_sources.proofs.Rounds.{before_after, before_none, each_none, words_more}
use Rattle.run_sources.proofs.texts.prelude.Goals as goal

pub loop-i-init : goal.loop-i-init
loop-i-init c =
    let n = c.args.draws.now.state in
    record { text = c.new-text.ensures.bytes ∙ sym (each_none (λ i. word_line i (drawn_word (before n i)))); state = sym (before_none n) }

pub loop-i-preserved : goal.loop-i-preserved
loop-i-preserved c =
    let n = c.args.draws.now.state in
    let i = c.loop-i.i in
    let letters = string_bytes c.in_ok-letters.letters in
    let pushed : string_bytes c.push_str.new.self ≡ string_bytes c.loop-i.text ++ word_line i letters = search rules in
    record {
      text = pushed ∙ words_more n c.loop-i.draws.state i (string_bytes c.loop-i.text) letters c.loop-i.invariant.text c.loop-i.invariant.state c.in_ok-letters.ensures.word;
      state = c.in_ok-letters.ensures.state ∙ before_after n c.loop-i.draws.state i c.loop-i.invariant.state;
    }

pub returns-clause-text : goal.returns-clause-text
returns-clause-text c =
    let n = c.args.draws.now.state in
    let whole : c.loop-i.i ≡ 16 = omega (arith, c.loop-i-test.false, c.loop-i.auto.i-end) in
    let pushed : string_bytes c.push_str-2.new.self ≡ string_bytes c.loop-i.text ++ all_line = c.in_ok-push_str-2.ensures.bytes in
    pushed ∙ ap (λ (text : List ℕ). text ++ all_line) (c.loop-i.invariant.text ∙ ap (joined_up_to (λ i. word_line i (drawn_word (before n i)))) whole)
