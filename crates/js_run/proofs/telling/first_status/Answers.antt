use Rattle.std.proofs.Common.{◌≡◌, ◌∙◌, ap, sym, rules, drop_of_length-le}
use Rattle.js_run.specs.Answer.{outcome_ends}
use Rattle.js_run.specs.Verdict.{status_of, status_or}
use Rattle.js_run.proofs.Written.{status_passed, status_stopped}
use Rattle.js_run.proofs.telling.first_status.Goals as goal

pub loop-script-preserved : goal.loop-script-preserved
loop-script-preserved c =
    let none : status_or c.script-item.result.end 0 ≡ 0 = search rules in
    status_passed c.args.scripts.now c.loop-script.script-index c.script-item.result c.loop-script-test.true c.script-item.is none ∙ c.loop-script.invariant

pub returns-then-status-ne0 : goal.returns-then-status-ne0
returns-then-status-ne0 c =
    let some : status_or c.script-item.result.end 0 ≡ 0 → ⊥ = search rules in
    c.end_status-status.ensures ∙ status_stopped c.args.scripts.now c.loop-script.script-index c.script-item.result c.loop-script-test.true c.script-item.is some ∙ c.loop-script.invariant

pub returns : goal.returns
returns c =
    let past = drop_of_length-le c.args.scripts.now {i = c.loop-script.script-index} c.loop-script-test.false in
    ap (λ l. status_of (outcome_ends l)) (sym past) ∙ c.loop-script.invariant
