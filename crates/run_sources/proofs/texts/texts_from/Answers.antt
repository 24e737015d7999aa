use Rattle.std.proofs.Common.{rules, ◌≡◌, ◌++◌, ◌∷◌, [], ap, arith, codes, sym, ◌∙◌}
use Rattle.run_sources.specs.Draws.{list_up_to}
use Rattle.run_sources.specs.Texts.{Named, before, named_script, prelude}
use Rattle.run_sources.specs.declared.texts.GeneratedText.{GeneratedText}
use Rattle.run_sources.proofs.Rounds.{after_none, first_text, next_text, rounds_more}
use Rattle.run_sources.proofs.Small.{generated_small}
use Rattle.run_sources.proofs.texts.texts_from.Goals as goal

pub loop-j-init : goal.loop-j-init
loop-j-init c =
    let made : GeneratedText = record { name = c.in_ok-from_str.field-0; text = c.in_ok-prelude.field-0 } in
    let one : c.push.new.self.items ≡ made ∷ [] = search rules in
    record {
      texts = first_text c.args.n c.push.new.self.items made one c.in_ok-from_str.ensures.ok c.in_ok-prelude.ensures.text;
      state = c.in_ok-prelude.ensures.state ∙ sym (after_none (before c.args.n 16));
    }

pub loop-j-preserved : goal.loop-j-preserved
loop-j-preserved c =
    let n = c.args.n in
    let j = c.loop-j.j in
    let state = c.loop-j.draws.state in
    let made : GeneratedText = record { name = c.in_ok-script_name.field-0; text = c.in_ok-script.field-0 } in
    let pushed : c.push-in-loop-j.new.self.items ≡ c.loop-j.texts.items ++ made ∷ [] = search rules in
    record {
      texts = next_text n state j c.loop-j.texts.items c.push-in-loop-j.new.self.items made c.loop-j.invariant.texts
          c.loop-j.invariant.state pushed c.in_ok-script_name.ensures c.in_ok-script.ensures.text;
      state = c.in_ok-script.ensures.state ∙ rounds_more 128 (before n 16) state j c.loop-j.invariant.state;
    }

pub returns-clause-small : goal.returns-clause-small
returns-clause-small c =
    let n = c.args.n in
    let start : Named = record { name = codes "gen-prelude"; text = prelude n } in
    let whole : c.loop-j.j ≡ 32 = omega (arith, c.loop-j-test.false, c.loop-j.auto.j-end) in
    let is = c.loop-j.invariant.texts ∙ ap (λ k. start ∷ list_up_to (named_script n) k) whole in
    rw (is) (generated_small n)
