use Rattle.std.proofs.Common.{◌∙◌, sym}
use Rattle.js_search.proofs.Lexical.{is_same}
use Rattle.heap_rule.proofs.MapLemmas.{has_key}
use Rattle.heap_table.specs.Agents.{view_of}
use Rattle.heap_read.proofs.Loaded.{reads_trans}
use Rattle.heap_bytes.specs.Spellings.{spelling_units}
use Rattle.heap_export.proofs.UnitByUnit.{told_equal}
use Rattle.heap_export.proofs.Windows.{few_on}
use Rattle.heap_export.proofs.spelled.has_spelled.Goals as goal

pub compare_window-requires-clause-window : goal.compare_window-requires-clause-window
compare_window-requires-clause-window g c = let u = has_key (view_of c.args.text.now.reader.agent).units c.args.s.id c.requires.known in (u.0, (c.window-window.ensures.shows u.0 u.1).0)

pub returns-clause-reads : goal.returns-clause-reads
returns-clause-reads g c = reads_trans _ _ _ c.window-window.ensures.reads c.compare_window.ensures.loads.reads

pub returns-clause-same : goal.returns-clause-same
returns-clause-same g c us h = let o = c.compare_window.ensures.order us (c.window-window.ensures.shows us h).0 in
    let t = is_same us (spelling_units c.args.source.now) c.compare_window.result o in let q = told_equal c.compare_window.result in
    (λ r. t.0 (q.0 (sym c.eq.ensures ∙ r)), λ r. c.eq.ensures ∙ q.1 (t.1 r))

pub returns-clause-few : goal.returns-clause-few
returns-clause-few g c = few_on _ _ _ 3 c.window-window.ensures.few c.compare_window.ensures.loads.forms.1
