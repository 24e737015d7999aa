use Rattle.std.proofs.Common.{◌≡◌, ◌∙◌, ap, sym, arith}
use Rattle.std.proofs.Common.{refl, rules}
use Rattle.c_steps.specs.declared.answer.JsOrder.{JsOrder}
use Rattle.c_steps.specs.Reports.{no_order}
use Rattle.c_steps.proofs.Stages.{orders, seeks_on, stops_both}
use Rattle.jsstr_c.proofs.comparing.jsstr_compare.Goals as goal

pub returns-then-status-ne-DONE-clause-seeks : goal.returns-then-status-ne-DONE-clause-seeks
returns-then-status-ne-DONE-clause-seeks c = let both = c.settle_both-status in let is = c.without_order.ensures in let e = ap (λ (x : JsOrder). x.status) is in
    stops_both c.args.agent.now.at.value both.new.agent.at.value c.args.a c.args.b both.result both.ensures.settles _ _ _ e c.if-status-ne-DONE.true (is ∙ ap no_order (sym e))

pub returns-clause-seeks : goal.returns-clause-seeks
returns-clause-seeks c = let both = c.settle_both-status in let two = c.order_of-order in let n = c.if-status-ne-DONE.false in
    seeks_on c.args.agent.now.at.value both.new.agent.at.value c.args.a c.args.b both.result both.ensures.settles two.new.agent.at.value _ _ _ (omega (arith, n)) two.ensures.searches
    (λ (x : 0 ≡ 9). absurd (omega (arith, x))) (λ (x : 0 ≡ 4). absurd (omega (arith, x)))
    (λ us vs h k. let is = two.ensures.order us vs h k in let r = two.ensures.means us vs h k in let same = r.1 in (orders _ _ refl (search rules), (r.0, search rules, r.2)))
