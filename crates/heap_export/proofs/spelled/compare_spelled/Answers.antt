use Rattle.heap_rule.proofs.MapLemmas.{has_key}
use Rattle.heap_table.specs.Agents.{view_of}
use Rattle.heap_read.proofs.Loaded.{reads_trans}
use Rattle.heap_export.proofs.Windows.{few_on}
use Rattle.heap_export.proofs.spelled.compare_spelled.Goals as goal

pub compare_window-requires-clause-window : goal.compare_window-requires-clause-window
compare_window-requires-clause-window g c = let u = has_key (view_of c.args.text.now.reader.agent).units c.args.s.id c.requires.known in (u.0, (c.window-window.ensures.shows u.0 u.1).0)

pub returns-clause-reads : goal.returns-clause-reads
returns-clause-reads g c = reads_trans _ _ _ c.window-window.ensures.reads c.compare_window.ensures.loads.reads

pub returns-clause-order : goal.returns-clause-order
returns-clause-order g c = λ us h. c.compare_window.ensures.order us (c.window-window.ensures.shows us h).0

pub returns-clause-few : goal.returns-clause-few
returns-clause-few g c = few_on _ _ _ 3 c.window-window.ensures.few c.compare_window.ensures.loads.forms.1
