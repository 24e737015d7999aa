use Rattle.std.proofs.Common.{◌≡◌, ◌∙◌, ap, sym, arith}
use Rattle.std.proofs.Common.{ℕ, Some}
use Rattle.c_steps.specs.Reports.{number_answer}
use Rattle.heap_rule.proofs.MapLemmas.{has_key}
use Rattle.heap_agents.specs.Ready.{handle_view}
use Rattle.c_steps.specs.declared.answer.JsNumber.{JsNumber}
use Rattle.c_steps.specs.Reports.{no_number}
use Rattle.c_steps.proofs.Stages.{goes_on, stops}
use Rattle.c_reads.proofs.reading.jsstr_unit_at.Goals as goal

pub returns-then-settled-ne-DONE-clause-reads : goal.returns-then-settled-ne-DONE-clause-reads
returns-then-settled-ne-DONE-clause-reads c = let first = c.settle_reaching-settled in let is = c.without_number.ensures in let e = ap (λ (x : JsNumber). x.status) is in
    stops c.args.agent.now.at.value first.new.agent.at.value c.args.s first.result first.ensures.settles _ _ _ e c.if-settled-ne-DONE.true (is ∙ ap no_number (sym e))

pub jsstr_unit_at_unchecked-unit-requires-clause-within : goal.jsstr_unit_at_unchecked-unit-requires-clause-within
jsstr_unit_at_unchecked-unit-requires-clause-within c = let first = c.settle_reaching-settled in let e : first.result.status ≡ 0 = omega (arith, c.if-settled-ne-DONE.false) in
    let u = has_key (handle_view first.new.agent.at.value).units c.args.s (first.ensures.readable e).0 in let long = first.ensures.long e u.0 u.1 in (u.0, u.1, omega (arith, long))

pub returns-clause-reads : goal.returns-clause-reads
returns-clause-reads c = let first = c.settle_reaching-settled in let two = c.jsstr_unit_at_unchecked-unit in let n = c.if-settled-ne-DONE.false in
    goes_on c.args.agent.now.at.value first.new.agent.at.value c.args.s first.result first.ensures.settles two.new.agent.at.value _ _ _
    (omega (arith, n)) two.ensures.looks (c.of_number.ensures.told) (c.of_number.ensures.words)
    (λ us h. c.of_number.ensures.value ∙ ap (λ (n : ℕ). number_answer (Some n)) (c.from.ensures ∙ two.ensures.unit us h))
