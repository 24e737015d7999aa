use Rattle.std.proofs.Common.{◌≡◌, drop}
use Rattle.js_run.specs.Answer.{outcome_ends}
use Rattle.js_run.specs.Verdict.{status_of}
use Rattle.js_run.proofs.telling.first_status.Given as goal

-- all so far ended Done
abbrev pub invariant-loop-script : goal.invariant-loop-script
invariant-loop-script l = status_of (outcome_ends (drop l.script-index l.scripts)) ≡ status_of (outcome_ends l.fn.scripts)
