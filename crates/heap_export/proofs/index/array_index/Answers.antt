use Rattle.heap_rule.proofs.MapLemmas.{has_key}
use Rattle.heap_table.specs.Agents.{view_of}
use Rattle.heap_read.proofs.Loaded.{reads_trans}
use Rattle.heap_export.proofs.Windows.{few_on}
use Rattle.heap_export.proofs.index.array_index.Goals as goal

pub index_in-requires : goal.index_in-requires
index_in-requires g c = let u = has_key (view_of c.args.text.now.reader.agent).units c.args.s.id c.requires.known in record { window = (u.0, (c.window-window.ensures.shows u.0 u.1).0) }

pub returns-clause-reads : goal.returns-clause-reads
returns-clause-reads g c = reads_trans _ _ _ c.window-window.ensures.reads c.index_in.ensures.loads.reads

pub returns-clause-index : goal.returns-clause-index
returns-clause-index g c = λ us h. c.index_in.ensures.index us (c.window-window.ensures.shows us h).0

pub returns-clause-few : goal.returns-clause-few
returns-clause-few g c = few_on _ _ _ 3 c.window-window.ensures.few c.index_in.ensures.loads.forms.1
