use Rattle.std.proofs.Common.{◌≡◌, ◌∙◌, ap₂, refl}
use Rattle.std.specs.Prelude.{fold}
use Rattle.std.proofs.lemmas.Result.{IfOk-weaker}
use Rattle.clap.specs.Words.{app_of, with_rule}
use Rattle.run_command.specs.Rules.{size_rules}
use Rattle.run_command.proofs.command.with_sizes.Goals as goal

pub returns : goal.returns
returns c =
    let a1 = c.in_ok-command.ensures.shape c.number_or-ids.ensures.local ∙ ap₂ with_rule refl c.number_or-ids.ensures.rule in
    let a2 = c.in_ok-command-2.ensures.shape c.number_or-heap_words.ensures.local ∙ ap₂ with_rule a1 c.number_or-heap_words.ensures.rule in
    IfOk-weaker c.arg-3.result _ (λ made. app_of made ≡ fold with_rule (app_of c.args.command) size_rules)
    (λ made adds. adds.shape c.number_or-slots.ensures.local ∙ ap₂ with_rule a2 c.number_or-slots.ensures.rule) c.arg-3.ensures
