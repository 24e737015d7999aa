use Rattle.js_run.proofs.Rows.{each_status}
use Rattle.js_run.proofs.run.run_words.Goals as goal

pub returns-clause-rows : goal.returns-clause-rows
returns-clause-rows g c = each_status _ c.one_script.ensures c.no_refused_script.ensures c.run.ensures
