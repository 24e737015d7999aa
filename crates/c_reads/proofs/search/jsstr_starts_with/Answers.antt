use Rattle.std.proofs.Common.{◌≡◌, ◌∙◌, ap, sym, arith}
use Rattle.std.proofs.Common.{refl}
use Rattle.c_steps.specs.declared.answer.JsTruth.{JsTruth}
use Rattle.c_steps.specs.Reports.{no_truth}
use Rattle.c_steps.proofs.Stages.{seeks_on, stops_both}
use Rattle.c_reads.proofs.search.jsstr_starts_with.Goals as goal

pub returns-then-status-ne-DONE-clause-seeks : goal.returns-then-status-ne-DONE-clause-seeks
returns-then-status-ne-DONE-clause-seeks c = let both = c.settle_both-status in let is = c.without_truth.ensures in let e = ap (λ (x : JsTruth). x.status) is in
    stops_both c.args.agent.now.at.value both.new.agent.at.value c.args.hay c.args.needle both.result both.ensures.settles _ _ _ e c.if-status-ne-DONE.true (is ∙ ap no_truth (sym e))

pub returns-clause-seeks : goal.returns-clause-seeks
returns-clause-seeks c = let both = c.settle_both-status in let two = c.begins_at-holds in let n = c.if-status-ne-DONE.false in
    seeks_on c.args.agent.now.at.value both.new.agent.at.value c.args.hay c.args.needle both.result both.ensures.settles two.new.agent.at.value _ _ _ (omega (arith, n)) two.ensures.searches
    (λ (x : 0 ≡ 9). absurd (omega (arith, x))) (λ (x : 0 ≡ 4). absurd (omega (arith, x)))
    (λ us vs h k. (refl, two.ensures.test us vs h k, two.ensures.stands us vs h k))
