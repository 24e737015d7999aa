use Rattle.std.proofs.Common.{◌≡◌, ◌∙◌, ap, sym, arith}
use Rattle.std.proofs.Common.{refl}
use Rattle.c_steps.specs.declared.answer.JsTruth.{JsTruth}
use Rattle.c_steps.specs.Reports.{no_truth}
use Rattle.c_steps.proofs.Stages.{goes_on, stops}
use Rattle.c_reads.proofs.lists.jsstr_equals_units.Goals as goal

pub returns-then-settled-ne-DONE-clause-compares : goal.returns-then-settled-ne-DONE-clause-compares
returns-then-settled-ne-DONE-clause-compares c = let first = c.settle_known-settled in let is = c.without_truth.ensures in let e = ap (λ (x : JsTruth). x.status) is in
    stops c.args.agent.now.at.value first.new.agent.at.value c.args.s first.result first.ensures.settles _ _ _ e c.if-settled-ne-DONE.true (is ∙ ap no_truth (sym e))

pub returns-clause-compares : goal.returns-clause-compares
returns-clause-compares c = let first = c.settle_known-settled in let two = c.has_units-holds in let n = c.if-settled-ne-DONE.false in
    goes_on c.args.agent.now.at.value first.new.agent.at.value c.args.s first.result first.ensures.settles two.new.agent.at.value _ _ _
    (omega (arith, n)) two.ensures.looks (λ (x : 0 ≡ 9). absurd (omega (arith, x))) (λ (x : 0 ≡ 4). absurd (omega (arith, x)))
    (λ us h. (refl, two.ensures.same us h))
