use Rattle.std.proofs.lemmas.Result.{IfOk-weaker}
use Rattle.clap.specs.Words.{found_of, rows_of}
use Rattle.run_command.specs.Words.{request_for}
use Rattle.run_command.proofs.Ranges.{in_range}
use Rattle.run_command.proofs.words.read_words.Goals as goal

pub returns-clause-ranges : goal.returns-clause-ranges
returns-clause-ranges c = IfOk-weaker c.plan_in.result _ _ (λ plan is. in_range (rows_of (found_of c.in-Ok.matches)) (request_for plan) is) c.plan_in.ensures.planned
