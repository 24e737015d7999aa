use Rattle.std.proofs.Common.{◌≡◌, ◌∙◌, ap, sym, arith}
use Rattle.std.proofs.Common.{refl, rules}
use Rattle.c_steps.specs.declared.answer.JsOrder.{JsOrder}
use Rattle.c_steps.specs.Reports.{no_order}
use Rattle.c_steps.proofs.Stages.{goes_on, orders, stops}
use Rattle.c_reads.proofs.lists.jsstr_compare_units.Goals as goal

pub returns-then-settled-ne-DONE-clause-compares : goal.returns-then-settled-ne-DONE-clause-compares
returns-then-settled-ne-DONE-clause-compares c = let first = c.settle_known-settled in let is = c.without_order.ensures in let e = ap (λ (x : JsOrder). x.status) is in
    stops c.args.agent.now.at.value first.new.agent.at.value c.args.s first.result first.ensures.settles _ _ _ e c.if-settled-ne-DONE.true (is ∙ ap no_order (sym e))

pub returns-clause-compares : goal.returns-clause-compares
returns-clause-compares c = let first = c.settle_known-settled in let two = c.order_with-order in let n = c.if-settled-ne-DONE.false in
    goes_on c.args.agent.now.at.value first.new.agent.at.value c.args.s first.result first.ensures.settles two.new.agent.at.value _ _ _
    (omega (arith, n)) two.ensures.looks (λ (x : 0 ≡ 9). absurd (omega (arith, x))) (λ (x : 0 ≡ 4). absurd (omega (arith, x)))
    (λ us h. let is = two.ensures.order us h in orders _ _ refl (search rules))
