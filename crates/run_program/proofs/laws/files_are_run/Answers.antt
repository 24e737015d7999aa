use Rattle.std.proofs.Common.{refl}
use Rattle.heap_rule.specs.Agents.{first_view}
use Rattle.heap_session.specs.Sessions.{state_by}
use Rattle.js_eval.specs.Script.{meaning}
use Rattle.eval_tree.specs.Tree.{tree_of}
use Rattle.run_program.proofs.Files.{run_jobs, run_none, run_one, run_stays, run_totals}
use Rattle.run_program.proofs.Tells.{follows}
use Rattle.run_program.proofs.laws.files_are_run.Goals as goal

pub returns-clause-none : goal.returns-clause-none
returns-clause-none c z agents limit table = run_none (state_by (first_view z agents) limit table) refl refl refl

pub returns-clause-script : goal.returns-clause-script
returns-clause-script c s t files script top after o a g ev = run_one s t files a (meaning (tree_of script) top s.limit) (record { index = o.index; script = script }) o after refl g ev

pub returns-clause-jobs : goal.returns-clause-jobs
returns-clause-jobs c s t files mean jobs outcomes a r = run_jobs s t files a mean jobs outcomes r

pub returns-clause-stays : goal.returns-clause-stays
returns-clause-stays c s t files a step history = run_stays s t files a step history

pub returns-clause-totals : goal.returns-clause-totals
returns-clause-totals c s files all a = run_totals s files all a

pub returns-clause-follows : goal.returns-clause-follows
returns-clause-follows c s prelude scripts files are tell = follows s prelude scripts files are tell
